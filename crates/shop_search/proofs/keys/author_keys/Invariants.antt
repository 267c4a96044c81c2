use Rattle.std.proofs.Common.{◌≡◌, take}
use Rattle.shop_search.specs.Keys.{fronts}
use Rattle.shop_search.proofs.keys.author_keys.Given as goal

abbrev pub invariant-loop-end : goal.invariant-loop-end
invariant-loop-end l = l.keys.items ≡ take l.end (fronts l.small-inside.bytes.items)
