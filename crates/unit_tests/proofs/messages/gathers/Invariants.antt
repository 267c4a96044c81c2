use Rattle.std.proofs.Common.{◌≡◌, false}
use Rattle.unit_tests.proofs.messages.gathers.Given as goal

abbrev pub invariant-loop-part : goal.invariant-loop-part
invariant-loop-part l = (l.gather.ended ≡ false) × (l.reader.ended ≡ false)
