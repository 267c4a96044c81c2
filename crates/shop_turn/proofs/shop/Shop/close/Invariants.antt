use Rattle.std.proofs.Common.{◌≡◌, ◌++◌, [], length}
use Rattle.std.specs.Arc.{arc_value}
use Rattle.std.specs.Vec.Iter.{into_iter_items, into_iter_len}
use Rattle.shop_turn.specs.Seats.{IsAt}
use Rattle.std.specs.List.{All}
use Rattle.shop_turn.specs.Joined.{joined, IsSeated}
use Rattle.shop_turn.proofs.shop.Shop.close.Given as goal

abbrev pub invariant-loop-desk : goal.invariant-loop-desk
invariant-loop-desk g l =
    (goal.iterator-loop-desk g).can_next l.desk-iterator
    × (goal.iterator-loop-desk g).is_finite l.desk-iterator
    × (l.yielded ++ into_iter_items l.desk-iterator ≡ into_iter_items l.initial.desk-iterator)
    × (into_iter_len l.desk-iterator ≡ length (into_iter_items l.desk-iterator))
    × IsAt (arc_value l.table).shared.table_id (arc_value l.table).shared.key.callers l.seat
    × (l.seat.me ≡ (joined l.initial.seat.me.0 l.yielded, []))
    × All IsSeated l.yielded
