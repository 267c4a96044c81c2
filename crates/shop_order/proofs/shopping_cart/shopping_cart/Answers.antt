use Rattle.std.proofs.Common.{None, refl, inl}
use Rattle.shop_model.specs.declared.requests.Request.TheVariants.{CartRequest}
use Rattle.shop_browse.proofs.cited.Counting.{begins_counted}
use Rattle.shop_order.specs.ShoppingCart.{FollowsLines}
use Rattle.shop_order.proofs.shopping_cart.shopping_cart.Goals as goal

pub attempt_counted-requires-clause-begins : goal.attempt_counted-requires-clause-begins
attempt_counted-requires-clause-begins g c =
    let ask = c.args.ask.now in
    let asked = c.args.asked.now in
    begins_counted (FollowsLines asked None ask.draw) (CartRequest asked) ask (λ items. refl) (λ opening log. inl (inl (inl refl)))
