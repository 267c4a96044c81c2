use Rattle.std.proofs.Common.{◌≡◌, ◌++◌, take}
use Rattle.std.specs.List.{flat_map}
use Rattle.shop_model.specs.pages.PageText.{cell_text}
use Rattle.shop_pages.proofs.blocks.push_row.Given as goal

abbrev pub invariant-loop-cell : goal.invariant-loop-cell
invariant-loop-cell l = l.text ≡ l.initial.text ++ flat_map cell_text (take l.cell-index l.cells)
