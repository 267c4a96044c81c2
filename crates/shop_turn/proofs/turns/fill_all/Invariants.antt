use Rattle.std.proofs.Common.{◌≤◌}
use Rattle.shop_turn.specs.Seats.{TakesAll}
use Rattle.shop_turn.proofs.turns.fill_all.Given as goal

abbrev pub invariant-loop-left : goal.invariant-loop-left
invariant-loop-left g l = TakesAll l.fn.seat l.left l.share l.seat × (l.left ≤ l.callers)

abbrev pub decreases-loop-left : goal.decreases-loop-left
decreases-loop-left g l = l.left
