use Rattle.std.proofs.Common.{◌≡◌, length}
use Rattle.unit_tests.proofs.rankings.sold_by_id.Given as goal

abbrev pub invariant-loop-before : goal.invariant-loop-before
invariant-loop-before l = length l.best.units ≡ 60
