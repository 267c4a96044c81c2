use Rattle.std.proofs.Common.{arith, sym, ap, ◌<◌, length}
use Rattle.std.proofs.lemmas.Bool.{ltb-false}
use Rattle.shop_window.specs.Windows.{Window}
use Rattle.shop_window.proofs.Adding.{none_in_orders}
use Rattle.shop_window.proofs.window.OrderWindow.quantity.Goals as goal

pub returns-in-None : goal.returns-in-None
returns-in-None g c =
    let w = c.self.inside in
    let past = ltb-false c.args.item (length c.deref.result.now) (sym c.in-None.ensures.lookup.0) in
    let over : w.items < c.args.item = omega (arith, past) in
    rw (← (ap (λ (v : Window). v.kept) c.self.view_is))
    (sym (none_in_orders w.items c.args.item w.orders.kept c.self.invariant.counted.orders over))
