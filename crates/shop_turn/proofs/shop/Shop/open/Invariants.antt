use Rattle.std.proofs.Common.{◌≡◌}
use Rattle.std.specs.Arc.{arc_value}
use Rattle.shop_turn.specs.Shops.{new_desks, IsLaid}
use Rattle.shop_turn.proofs.shop.Shop.open.Given as goal

abbrev pub invariant-loop-i : goal.invariant-loop-i
invariant-loop-i g l =
    IsLaid l.fn.book l.callers (arc_value l.table).shared.table_id (arc_value l.table).shared.key l.root
    × (l.desks.items ≡ new_desks (arc_value l.table).shared.table_id l.fn.book l.callers l.i)
