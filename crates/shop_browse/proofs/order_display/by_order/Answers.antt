use Rattle.std.proofs.Common.{◌≡◌, ◌∷◌, [], ◌∙◌, ap, sym, subst}
use Rattle.shop_model.specs.declared.requests.Request.TheVariants.{OrderDisplay}
use Rattle.shop_model.specs.rows.Rows.{OrderRow}
use Rattle.shop_history.specs.declared.keys.Key.TheVariants.{Address}
use Rattle.shop_browse.specs.Driver.{AsksFor}
use Rattle.shop_browse.specs.OrderDisplay.{FollowsDisplay}
use Rattle.shop_browse.proofs.OrderDisplayLemmas.{has_order, order_there}
use Rattle.shop_browse.proofs.OrderReads.{asks_address}
use Rattle.shop_browse.proofs.order_display.by_order.Goals as goal

pub returns-in-Order : goal.returns-in-Order
returns-in-Order c catalogue draft ask _ =
    let asked = c.args.asked.now in
    let reads = c.args.reads.now in
    let order = c.in-Order.order in
    let same : c.behind-order.inside.ship_address ≡ order.ship_address = ap (λ (o : OrderRow). o.ship_address) (c.behind-order.view_is ∙ c.get.ensures) in
    subst (λ a. AsksFor (FollowsDisplay asked catalogue) (OrderDisplay asked) ask 4 reads (Address a ∷ [])) (sym same)
    (asks_address catalogue asked ask reads order (has_order asked.login reads c.requires _ order c.in-Order.is))

pub returns-in_default : goal.returns-in_default
returns-in_default c catalogue draft ask _ t fits =
    let there = order_there c.args.asked.now.login c.args.reads.now c.requires c.index-reads-3.result ask.index.now t fits in
    c.in_default.not-Order there.0 there.1
