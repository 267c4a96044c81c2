use Rattle.std.proofs.Common.{◌≡◌, ◌*◌, ◌≤◌, take}
use Rattle.shop_model.specs.rows.Sound.{units_in}
use Rattle.shop_book.proofs.buyers.units_of.Given as goal

-- the units in the first lines, of which each has 999 at most
abbrev pub invariant-loop-line : goal.invariant-loop-line
invariant-loop-line l = record {
  units : l.units ≡ units_in l.item (take l.line-index l.lines);
  few : l.units ≤ 999 * l.line-index;
}
