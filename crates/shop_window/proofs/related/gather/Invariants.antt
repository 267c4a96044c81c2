use Rattle.std.proofs.Common.{◌≡◌, flat_map, take}
use Rattle.shop_window.proofs.related.gather.Given as goal

abbrev pub invariant-loop-list : goal.invariant-loop-list
invariant-loop-list l = l.pairs.items ≡ flat_map (λ list. list.now) (take l.list-index l.lists)
