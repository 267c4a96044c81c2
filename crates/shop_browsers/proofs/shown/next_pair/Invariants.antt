use Rattle.std.proofs.Common.{ℕ, ◌≤◌, List, length}
use Rattle.shop_browsers.specs.Scanned.{IsLeft}
use Rattle.shop_browsers.proofs.shown.next_pair.Given as goal

abbrev pub invariant-loop-rest : goal.invariant-loop-rest
invariant-loop-rest l = record {
  left : (t tail : List ℕ) → IsLeft t tail l.left → IsLeft t tail l.rest;
  size : length l.rest ≤ length l.left;
}

abbrev pub decreases-loop-rest : goal.decreases-loop-rest
decreases-loop-rest l = length l.rest
