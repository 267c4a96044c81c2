use Rattle.std.proofs.Common.{◌≡◌, map, take}
use Rattle.shop_browse.specs.Lines.{line_names, names_in}
use Rattle.shop_browse.proofs.lines.lines_of.Given as goal

-- a line for each item so far
abbrev pub invariant-loop-item : goal.invariant-loop-item
invariant-loop-item l = map line_names l.lines ≡ map (names_in l.names) (take l.item-index l.items)
