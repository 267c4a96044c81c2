use Rattle.std.proofs.Common.{◌≡◌, drop}
use Rattle.shop_browse.specs.Names as spec
use Rattle.shop_browse.proofs.names.label_read.Given as goal

-- none of the reads so far is the item's label
abbrev pub invariant-loop-read : goal.invariant-loop-read
invariant-loop-read l = spec.label_read l.item (drop l.read-index l.labels) ≡ spec.label_read l.item l.labels
