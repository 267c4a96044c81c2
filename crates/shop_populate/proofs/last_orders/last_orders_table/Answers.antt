use Rattle.std.proofs.Common.{◌∙◌, arith, rules}
use Rattle.shop_model.proofs.cited.LastOrders.{lasts_more, place_within, none_yet}
use Rattle.shop_populate.proofs.last_orders.last_orders_table.Goals as goal

pub index_mut-requires : goal.index_mut-requires
index_mut-requires c =
    let same = c.order.view_is ∙ c.get-order.ensures in
    let is = rw (← same) at c.order-item.is in
    let within = place_within _ _ _ _ _ c.requires.known c.loop-order-test.true is c.loop-order.invariant in
    omega (arith, within, c.loop-order.lasts.ok)

pub loop-order-init : goal.loop-order-init
loop-order-init c =
    c.in_ok-lasts.ensures.items_if_clones_equal (λ y h. search rules) ∙ none_yet 1 c.args.customers

pub loop-order-preserved : goal.loop-order-preserved
loop-order-preserved c =
    let same = c.order.view_is ∙ c.get-order.ensures in
    let is = rw (← same) at c.order-item.is in
    lasts_more _ _ _ _ _ c.requires.run c.requires.known c.loop-order-test.true is c.loop-order.invariant
