use Rattle.std.proofs.Common.{sym, ap, ◌≡◌}
use Rattle.shop_window.specs.Windows.{Window}
use Rattle.shop_window.proofs.Adding.{may_be_kept}
use Rattle.shop_window.proofs.window.OrderWindow.admit.Goals as goal

pub join-requires-clause-order : goal.join-requires-clause-order
join-requires-clause-order g c =
    let items : c.args.self.now.items ≡ c.self.inside.items = sym (ap (λ (v : Window). v.items) c.self.view_is) in
    may_be_kept c.self.inside.items c.args.order.now c.of.result.sold c.of.ensures.sold c.requires.lines
    (rw items at c.requires.items) c.of.ensures.quantities
