use Rattle.shop_window.proofs.Adding.{has_room}
use Rattle.shop_window.proofs.window.join.Goals as goal

pub add_lines-requires : goal.add_lines-requires
add_lines-requires c =
    rw c.lines.ensures (has_room c.args.items c.args.units.now.items c.args.orders.now.kept c.args.order.sold c.requires.counted c.requires.order)
