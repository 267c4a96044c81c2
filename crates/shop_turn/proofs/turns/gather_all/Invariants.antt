use Rattle.shop_turn.specs.Seats.{TakesAll}
use Rattle.shop_turn.proofs.turns.gather_all.Given as goal

abbrev pub invariant-loop-gathered : goal.invariant-loop-gathered
invariant-loop-gathered g l = TakesAll l.fn.seat l.gathered l.share l.seat
