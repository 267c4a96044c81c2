use Rattle.std.proofs.Common.{◌≡◌, ◌∙◌, ◌∷◌, [], length, append_assoc, sym, ap, arith}
use Rattle.std.specs.Vec.Iter.{into_iter_items}
use Rattle.std.proofs.lemmas.Slice.Zip.{all_zipped_more}
use Rattle.std.proofs.lemmas.List.{nil_from_length}
use Rattle.shop_edges.specs.Causes.{count_up}
use Rattle.shop_edges.specs.Starts.{Spawning}
use Rattle.shop_tasks.specs.Tasks.{IsTicketOf}
use Rattle.shop_places.proofs.cited.Counts.{counted_more}
use Rattle.shop_tasks.proofs.running.start_all.Goals as goal

pub loop-task-preserved : goal.loop-task-preserved
loop-task-preserved g c =
    let was = c.loop-task.invariant in
    let steps : into_iter_items c.loop-task.task-iterator ≡ c.in-Some.task ∷ into_iter_items c.next.new.self = c.in-Some.ensures.steps.0 in
    record {
      can = tt;
      finite = tt;
      split = append_assoc c.loop-task.yielded (c.in-Some.task ∷ []) _ ∙ rw (← steps) was.split;
      size = omega (arith, was.size, c.in-Some.ensures.steps.1, ap length steps);
      are = rw c.push_reserved.ensures.items
          (all_zipped_more (IsTicketOf g.C.Clock.readings) c.loop-task.yielded c.loop-task.tickets.items c.in-Some.task c.in-Started.ticket was.are c.in-Started.ensures.promise);
      room = omega (arith, was.room, ap length steps, c.push_reserved.ensures.len, c.push_reserved.ensures.capacity);
      starts = ap (λ (s : Spawning). s.starts) c.in-Started.ensures.counts ∙ ap count_up was.starts ∙ sym (counted_more c.loop-task.yielded c.in-Some.task _);
      later = omega (arith, was.later, ap (λ (s : Spawning). s.faults) c.in-Started.ensures.counts);
    }

pub returns-in-Failed : goal.returns-in-Failed
returns-in-Failed g c =
    let was = c.loop-task.invariant in
    let steps : into_iter_items c.loop-task.task-iterator ≡ c.in-Some.task ∷ into_iter_items c.next.new.self = c.in-Some.ensures.steps.0 in
    record {
      begun = c.loop-task.yielded;
      left = c.in-Some.task ∷ into_iter_items c.next.new.self;
      split = sym (rw (← steps) was.split ∙ c.into_iter-task-iterator.ensures.into_iter_gives.0);
      are = was.are;
      whole = λ all. absurd cc;
      failed = λ _. omega (arith, was.later, c.start.ensures.cause.failed c.in-Failed.is);
      starts = ap (λ (s : Spawning). s.starts) c.in-Failed.ensures.counts ∙ was.starts;
    }

pub returns : goal.returns
returns g c =
    let was = c.loop-task.invariant in
    let empty : into_iter_items c.loop-task.task-iterator ≡ [] = nil_from_length _ (sym was.size ∙ c.in-None.ensures.steps.0) in
    record {
      begun = c.loop-task.yielded;
      left = into_iter_items c.loop-task.task-iterator;
      split = sym (was.split ∙ c.into_iter-task-iterator.ensures.into_iter_gives.0);
      are = was.are;
      whole = λ _. empty;
      failed = λ none. absurd cc;
      starts = was.starts;
    }
