use Rattle.std.proofs.Common.{◌≡◌, drop}
use Rattle.shop_browse.specs.Names.{label_keys}
use Rattle.shop_browse.specs.OrderDisplay.{items_of}
use Rattle.shop_browse.proofs.order_display.has_items.Given as goal

-- labels are to be read of the lines that are left alone
abbrev pub invariant-loop-line : goal.invariant-loop-line
invariant-loop-line l = label_keys l.index (items_of l.lines) ≡ label_keys l.index (items_of (drop l.line-index l.lines))
