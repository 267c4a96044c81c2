use Rattle.std.proofs.Common.{◌≡◌, ◌∷◌, ◌++◌, drop}
use Rattle.shop_history.specs.declared.keys.Key.TheVariants as key_kinds
use Rattle.shop_browse.specs.Names.{label_keys}
use Rattle.shop_browse.specs.OrderDisplay.{items_of}
use Rattle.shop_browse.proofs.order_display.last_keys.Given as goal

-- the keys so far go on with those of the lines that are left
abbrev pub invariant-loop-line : goal.invariant-loop-line
invariant-loop-line l =
    l.keys ++ label_keys l.index (items_of (drop l.line-index l.lines)) ≡ key_kinds.Country l.country ∷ label_keys l.index (items_of l.lines)
