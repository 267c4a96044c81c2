use Rattle.std.proofs.Common.{◌≡◌, map, take}
use Rattle.shop_ranking.proofs.ranked.are_ids.Given as goal

abbrev pub invariant-loop-place : goal.invariant-loop-place
invariant-loop-place g l = take l.place l.ids ≡ map g.T.Ranked.id_of (take l.place l.elements)
