use Rattle.std.proofs.Common.{◌≡◌, map, take, vec_capacity}
use Rattle.shop_ranking.proofs.ranked.write_ids.Given as goal

abbrev pub invariant-loop-element : goal.invariant-loop-element
invariant-loop-element g l = record {
  ids : l.ids.items ≡ map g.T.Ranked.id_of (take l.element-index l.elements);
  capacity : vec_capacity l.ids ≡ vec_capacity l.initial.ids;
}
