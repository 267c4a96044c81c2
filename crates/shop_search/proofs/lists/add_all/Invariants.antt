use Rattle.std.proofs.Common.{take}
use Rattle.shop_search.specs.Lists.{AddsAll}
use Rattle.shop_search.proofs.lists.add_all.Given as goal

abbrev pub invariant-loop-place : goal.invariant-loop-place
invariant-loop-place l = AddsAll l.initial.lists l.lists (take l.place l.keys) l.id
