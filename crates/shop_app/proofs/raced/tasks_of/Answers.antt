use Rattle.std.proofs.Common.{◌≡◌, ◌∙◌, ◌+◌, ◌++◌, ◌∷◌, [], List, length, length-append, append_assoc, append-nil, sym, ap, subst, arith}
use Rattle.std.specs.List.{AllZip}
use Rattle.std.specs.Vec.Iter.{into_iter_items}
use Rattle.std.proofs.lemmas.Slice.Zip.{all_zipped_more}
use Rattle.std.proofs.lemmas.List.{nil_from_length}
use Rattle.shop_attempt.specs.Seats.{IsSeat}
use Rattle.shop_turn.specs.Desks.{DeskValue, seat_of}
use Rattle.shop_app.specs.Racing.{IsFirstTask}
use Rattle.shop_app.proofs.cited.NewShops.{holds_next, next_desk, posted_at}
use Rattle.shop_app.proofs.RaceLemmas.{first_task}
use Rattle.shop_app.proofs.raced.tasks_of.Goals as goal

pub task_of-requires : goal.task_of-requires
task_of-requires g c =
    let was = c.loop-desk.invariant in
    let steps : into_iter_items c.loop-desk.desk-iterator ≡ c.in-Some.desk ∷ into_iter_items c.next.new.self = c.in-Some.ensures.steps.0 in
    let split : c.loop-desk.yielded ++ c.in-Some.desk ∷ into_iter_items c.next.new.self ≡ c.args.desks.items = rw (← steps) was.split ∙ c.into_iter-desk-iterator.ensures.into_iter_gives.0 in
    let desk = next_desk c.args.asked.now.shop _ c.loop-desk.yielded c.in-Some.desk _ _ c.requires.desks split in
    rw (was.number) (posted_at c.args.asked.now.shop _ (length c.loop-desk.yielded + 1) c.requires.desks.table c.in-Some.desk _ desk (c.in_ok-index.ensures ∙ c.requires.index)
    (holds_next (λ (d : DeskValue). IsSeat (seat_of d)) c.loop-desk.yielded c.in-Some.desk _ _ split c.requires.desks.valid))

pub loop-desk-preserved : goal.loop-desk-preserved
loop-desk-preserved g c =
    let was = c.loop-desk.invariant in
    let steps : into_iter_items c.loop-desk.desk-iterator ≡ c.in-Some.desk ∷ into_iter_items c.next.new.self = c.in-Some.ensures.steps.0 in
    let split : c.loop-desk.yielded ++ c.in-Some.desk ∷ into_iter_items c.next.new.self ≡ c.args.desks.items = rw (← steps) was.split ∙ c.into_iter-desk-iterator.ensures.into_iter_gives.0 in
    let desk = next_desk c.args.asked.now.shop _ c.loop-desk.yielded c.in-Some.desk _ _ c.requires.desks split in
    record {
      can = tt;
      finite = tt;
      split = append_assoc c.loop-desk.yielded (c.in-Some.desk ∷ []) _ ∙ rw (← steps) was.split;
      size = omega (arith, was.size, c.in-Some.ensures.steps.1, ap length steps);
      number = omega (arith, was.number, length-append c.loop-desk.yielded (c.in-Some.desk ∷ []));
      are = rw c.in_ok-push.ensures.items
          (all_zipped_more (IsFirstTask g.C.Clock.readings c.args.asked.now (g.C.Clock.readings c.args.clock.now)) c.loop-desk.yielded c.loop-desk.tasks.items c.in-Some.desk c.task_of.result was.are
          (first_task g.C.Clock.readings c.args.asked.now (g.C.Clock.readings c.args.clock.now) c.in-Some.desk (c.loop-desk.number + 1) c.task_of.result c.in-Some-twin.clock c.task_of.ensures
          (ap (λ (d : DeskValue). d.number) desk ∙ omega (arith, was.number)) c.in-Some-twin.ensures));
    }

pub returns : goal.returns
returns g c =
    let was = c.loop-desk.invariant in
    let empty : into_iter_items c.loop-desk.desk-iterator ≡ [] = nil_from_length _ (sym was.size ∙ c.in-None.ensures.steps.0) in
    let whole : c.loop-desk.yielded ≡ c.args.desks.items = sym (append-nil c.loop-desk.yielded) ∙ rw empty at was.split ∙ c.into_iter-desk-iterator.ensures.into_iter_gives.0 in
    subst (λ (desks : List DeskValue). AllZip (IsFirstTask g.C.Clock.readings c.args.asked.now (g.C.Clock.readings c.args.clock.now)) desks c.loop-desk.tasks.items) whole was.are
