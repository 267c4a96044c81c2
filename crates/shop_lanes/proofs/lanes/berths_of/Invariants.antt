use Rattle.std.proofs.Common.{◌≡◌, ◌+◌, ◌≤◌, ◌++◌, length, map}
use Rattle.std.specs.List.{All}
use Rattle.std.specs.Vec.{vec_len, vec_capacity}
use Rattle.std.specs.Vec.Iter.{into_iter_items, into_iter_len}
use Rattle.shop_places.specs.Spots.{IsFree, put_free}
use Rattle.shop_lanes.proofs.lanes.berths_of.Given as goal

abbrev pub invariant-loop-lane : goal.invariant-loop-lane
invariant-loop-lane g l = record {
  can : (goal.iterator-loop-lane g).can_next l.lane-iterator;
  finite : (goal.iterator-loop-lane g).is_finite l.lane-iterator;
  split : l.yielded ++ into_iter_items l.lane-iterator ≡ into_iter_items l.initial.lane-iterator;
  size : into_iter_len l.lane-iterator ≡ length (into_iter_items l.lane-iterator);
  free : All IsFree (into_iter_items l.lane-iterator);
  made : l.yielded ≡ map put_free l.berths.items;
  room : vec_len l.berths + length (into_iter_items l.lane-iterator) ≤ vec_capacity l.berths;
}
