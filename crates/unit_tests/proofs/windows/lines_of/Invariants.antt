use Rattle.std.proofs.Common.{◌≡◌, length}
use Rattle.std.specs.List.{All}
use Rattle.shop_model.specs.rows.Sound.{Has}
use Rattle.unit_tests.proofs.windows.lines_of.Given as goal

abbrev pub invariant-loop-item : goal.invariant-loop-item
invariant-loop-item l = record {
  size : length l.lines ≡ l.item-index;
  items : All (λ r. Has 3 r.item) l.lines;
}
