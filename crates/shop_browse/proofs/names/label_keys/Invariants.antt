use Rattle.std.proofs.Common.{◌≡◌, ◌++◌, drop}
use Rattle.shop_browse.specs.Names as spec
use Rattle.shop_browse.proofs.names.label_keys.Given as goal

-- the keys so far go on with those of the items that are left
abbrev pub invariant-loop-item : goal.invariant-loop-item
invariant-loop-item l = l.keys ++ spec.label_keys l.index (drop l.item-index l.items) ≡ spec.label_keys l.index l.items
