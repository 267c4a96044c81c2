use Rattle.std.proofs.Common.{◌≡◌, ◌+◌, ◌≤◌, ◌++◌, length, map}
use Rattle.std.specs.List.{All}
use Rattle.std.specs.Vec.{vec_len, vec_capacity}
use Rattle.std.specs.Vec.Iter.{into_iter_items, into_iter_len}
use Rattle.shop_places.specs.Spots.{IsFree, put_free}
use Rattle.shop_places.proofs.serving.stations_of.Given as goal

abbrev pub invariant-loop-spot : goal.invariant-loop-spot
invariant-loop-spot g l = record {
  can : (goal.iterator-loop-spot g).can_next l.spot-iterator;
  finite : (goal.iterator-loop-spot g).is_finite l.spot-iterator;
  split : l.yielded ++ into_iter_items l.spot-iterator ≡ into_iter_items l.initial.spot-iterator;
  size : into_iter_len l.spot-iterator ≡ length (into_iter_items l.spot-iterator);
  free : All IsFree (into_iter_items l.spot-iterator);
  made : l.yielded ≡ map put_free l.stations.items;
  room : vec_len l.stations + length (into_iter_items l.spot-iterator) ≤ vec_capacity l.stations;
}
