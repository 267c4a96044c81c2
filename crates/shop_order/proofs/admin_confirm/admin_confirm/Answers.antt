use Rattle.std.proofs.Common.{refl, inl}
use Rattle.shop_model.specs.declared.requests.Request.TheVariants.{AdminConfirm}
use Rattle.shop_browse.proofs.cited.Counting.{begins_counted}
use Rattle.shop_order.specs.AdminConfirm.{FollowsMending}
use Rattle.shop_order.proofs.admin_confirm.admin_confirm.Goals as goal

pub attempt_counted-requires-clause-begins : goal.attempt_counted-requires-clause-begins
attempt_counted-requires-clause-begins g c =
    let ask = c.args.ask.now in
    let asked = c.args.asked.now in
    begins_counted (FollowsMending ask.index.now asked.item) (AdminConfirm asked) ask (λ items. refl) (λ opening log. inl (inl (inl refl)))
