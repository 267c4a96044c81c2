use Rattle.std.proofs.Common.{◌≡◌, ◌+◌, ◌≤◌, ◌++◌, length}
use Rattle.std.specs.List.{AllZip}
use Rattle.std.specs.Vec.{vec_len, vec_capacity}
use Rattle.std.specs.Vec.Iter.{into_iter_items, into_iter_len}
use Rattle.shop_places.specs.Counts.{counted}
use Rattle.shop_tasks.specs.Tasks.{IsTicketOf}
use Rattle.shop_tasks.proofs.running.start_all.Given as goal

abbrev pub invariant-loop-task : goal.invariant-loop-task
invariant-loop-task g l = record {
  can : (goal.iterator-loop-task g).can_next l.task-iterator;
  finite : (goal.iterator-loop-task g).is_finite l.task-iterator;
  split : l.yielded ++ into_iter_items l.task-iterator ≡ into_iter_items l.initial.task-iterator;
  size : into_iter_len l.task-iterator ≡ length (into_iter_items l.task-iterator);
  are : AllZip (IsTicketOf g.C.Clock.readings) l.yielded l.tickets.items;
  room : vec_len l.tickets + length (into_iter_items l.task-iterator) ≤ vec_capacity l.tickets;
  starts : l.spawner.starts ≡ counted (length l.yielded) l.fn.spawner.starts;
  later : l.fn.spawner.faults ≤ l.spawner.faults;
}
