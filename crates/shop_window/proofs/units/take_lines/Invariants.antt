use Rattle.std.proofs.Common.{drop}
use Rattle.shop_window.proofs.Adding.{IsAdding}
use Rattle.shop_window.proofs.units.take_lines.Given as goal

abbrev pub invariant-loop-item : goal.invariant-loop-item
invariant-loop-item l = IsAdding l.units.items l.initial.units.items (drop l.item-index l.lines) l.lines
