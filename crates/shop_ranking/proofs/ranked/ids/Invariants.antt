use Rattle.std.proofs.Common.{◌≡◌, map, take}
use Rattle.shop_ranking.proofs.ranked.ids.Given as goal

abbrev pub invariant-loop-element : goal.invariant-loop-element
invariant-loop-element g l = l.ids ≡ map g.T.Ranked.id_of (take l.element-index l.elements)
