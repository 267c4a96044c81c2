use Rattle.std.proofs.Common.{◌≡◌, ◌+◌, ◌≤◌, ◌++◌, length, map, List, true, Ok}
use Rattle.std.specs.List.{All, AllZip}
use Rattle.std.specs.Vec.{vec_len, vec_capacity}
use Rattle.std.specs.Vec.Iter.{into_iter_items, into_iter_len}
use Rattle.shop_edges.specs.Starts.{MayGive}
use Rattle.shop_tasks.specs.TaskValues.{RacedValue}
use Rattle.shop_tasks.specs.Tasks.{IsGiven, Promises}
use Rattle.shop_tasks.proofs.running.join_all.Given as goal

abbrev pub invariant-loop-ticket : goal.invariant-loop-ticket
invariant-loop-ticket g l = record {
  can : (goal.iterator-loop-ticket g).can_next l.ticket-iterator;
  finite : (goal.iterator-loop-ticket g).is_finite l.ticket-iterator;
  split : l.yielded ++ into_iter_items l.ticket-iterator ≡ into_iter_items l.initial.ticket-iterator;
  size : into_iter_len l.ticket-iterator ≡ length (into_iter_items l.ticket-iterator);
  given : l.all ≡ true → (raced : List RacedValue) × AllZip (λ ticket one. MayGive (Promises g.C.Clock.readings) ticket (Ok one)) l.yielded raced × (l.desks.items ≡ map (λ one. one.desk) raced);
  each : All (IsGiven g.C.Clock.readings l.yielded) l.desks.items;
  room : vec_len l.desks + length (into_iter_items l.ticket-iterator) ≤ vec_capacity l.desks;
}
