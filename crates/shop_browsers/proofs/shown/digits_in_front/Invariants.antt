use Rattle.std.proofs.Common.{length}
use Rattle.shop_browsers.specs.Scanned.{AreDigits}
use Rattle.shop_browsers.proofs.shown.digits_in_front.Given as goal

abbrev pub invariant-loop-rest : goal.invariant-loop-rest
invariant-loop-rest l = AreDigits l.text l.value l.rest

abbrev pub decreases-loop-rest : goal.decreases-loop-rest
decreases-loop-rest l = length l.rest
