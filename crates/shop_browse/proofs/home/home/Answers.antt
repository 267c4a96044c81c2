use Rattle.std.proofs.Common.{ℕ, [], Option, Some, None, refl, inl}
use Rattle.shop_model.specs.declared.requests.Request.TheVariants.{Home}
use Rattle.shop_browse.specs.Counting.{drawn_key}
use Rattle.shop_browse.specs.Home.{FollowsWelcome}
use Rattle.shop_browse.proofs.cited.Counting.{begins_counted}
use Rattle.shop_browse.proofs.home.home.Goals as goal

pub attempt_counted-requires-clause-begins : goal.attempt_counted-requires-clause-begins
attempt_counted-requires-clause-begins g c =
    let ask = c.args.ask.now in
    let asked = c.args.asked.now in
    begins_counted (λ items. FollowsWelcome asked.ids.c ask.index.now (drawn_key ask.draw items)) (Home asked) ask (begins asked.ids.c) (λ opening log. inl (inl refl))
  where
    begins : (number : Option ℕ) (items : ℕ) → FollowsWelcome number c.args.ask.now.index.now (drawn_key c.args.ask.now.draw items) 0 []
    begins None items = refl
    begins (Some number) items = refl
