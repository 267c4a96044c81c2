use Rattle.std.proofs.Common.{◌≡◌, map, take}
use Rattle.shop_ranking.proofs.subjects.subjects_of.Given as goal

abbrev pub invariant-loop-item : goal.invariant-loop-item
invariant-loop-item l = l.subjects.items ≡ map (λ i. i.subject) (take l.item-index l.items)
