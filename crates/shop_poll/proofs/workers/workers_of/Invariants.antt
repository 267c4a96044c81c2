use Rattle.std.proofs.Common.{◌≡◌, ◌++◌, length}
use Rattle.std.specs.Vec.Iter.{into_iter_items, into_iter_len}
use Rattle.shop_poll.specs.Workers.{AreFirstWorkers}
use Rattle.shop_poll.proofs.workers.workers_of.Given as goal

abbrev pub invariant-loop-desk : goal.invariant-loop-desk
invariant-loop-desk g l = record {
  can : (goal.iterator-loop-desk g).can_next l.desk-iterator;
  finite : (goal.iterator-loop-desk g).is_finite l.desk-iterator;
  split : l.yielded ++ into_iter_items l.desk-iterator ≡ into_iter_items l.initial.desk-iterator;
  size : into_iter_len l.desk-iterator ≡ length (into_iter_items l.desk-iterator);
  number : l.number ≡ length l.yielded;
  are : AreFirstWorkers l.asked.shop l.yielded l.workers.items;
}
