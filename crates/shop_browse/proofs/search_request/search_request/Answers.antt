use Rattle.std.proofs.Common.{refl, inl}
use Rattle.shop_model.specs.declared.requests.Request.TheVariants.{SearchRequest}
use Rattle.shop_browse.proofs.cited.Counting.{begins_counted}
use Rattle.shop_browse.proofs.HomeReads.{FollowsDrawn}
use Rattle.shop_browse.proofs.search_request.search_request.Goals as goal

pub attempt_counted-requires-clause-begins : goal.attempt_counted-requires-clause-begins
attempt_counted-requires-clause-begins g c =
    let ask = c.args.ask.now in
    begins_counted (FollowsDrawn ask.index.now ask.draw) (SearchRequest c.args.asked.now) ask (λ items. refl) (λ opening log. inl (inl refl))
