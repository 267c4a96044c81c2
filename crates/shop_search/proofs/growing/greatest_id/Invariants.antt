use Rattle.std.proofs.Common.{◌≡◌, map, take}
use Rattle.shop_search.specs.Growing.{greatest}
use Rattle.shop_search.proofs.growing.greatest_id.Given as goal

abbrev pub invariant-loop-item : goal.invariant-loop-item
invariant-loop-item l = l.greatest ≡ greatest (map (λ f. f.id) (take l.item-index l.items))
