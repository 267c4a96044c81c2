use Rattle.std.proofs.Common.{◌≡◌, ◌++◌, length}
use Rattle.std.specs.Vec.Iter.{into_iter_items, into_iter_len}
use Rattle.shop_poll.specs.Lanes.{AreStations}
use Rattle.shop_poll.proofs.lanes.stations_of.Given as goal

abbrev pub invariant-loop-worker : goal.invariant-loop-worker
invariant-loop-worker g l = record {
  can : (goal.iterator-loop-worker g).can_next l.worker-iterator;
  finite : (goal.iterator-loop-worker g).is_finite l.worker-iterator;
  split : l.yielded ++ into_iter_items l.worker-iterator ≡ into_iter_items l.initial.worker-iterator;
  size : into_iter_len l.worker-iterator ≡ length (into_iter_items l.worker-iterator);
  are : AreStations g.C.Clock.readings (g.C.Clock.readings l.clock) l.yielded l.stations.items;
}
