use Rattle.std.proofs.Common.{◌≡◌, length, map}
use Rattle.std.specs.List.{range_with_len}
use Rattle.unit_tests.proofs.rankings.sixty.Given as goal

abbrev pub invariant-loop-before : goal.invariant-loop-before
invariant-loop-before l = record {
  size : length l.items.items ≡ l.before;
  ids : map (λ i. i.id) l.items.items ≡ range_with_len 1 l.before;
}
