use Rattle.std.proofs.Common.{◌≡◌, ◌∙◌, ◌+◌, ◌++◌, ◌∷◌, [], List, ℕ, length, length-append, append_assoc, append-nil, sym, ap, subst, arith}
use Rattle.std.specs.Vec.Iter.{into_iter_items}
use Rattle.std.proofs.lemmas.Slice.Zip.{all_zipped_more}
use Rattle.std.proofs.lemmas.List.{nil_from_length}
use Rattle.shop_attempt.specs.Seats.{IsSeat}
use Rattle.shop_engine.specs.Posts.{first_state}
use Rattle.shop_turn.specs.Desks.{DeskValue, seat_of}
use Rattle.shop_app.specs.NewShops.{caller_of}
use Rattle.shop_app.proofs.cited.NewShops.{holds_next, next_desk, posted_at}
use Rattle.shop_poll.specs.Workers.{AreFirstWorkers, IsFirstWorker}
use Rattle.shop_poll.proofs.workers.workers_of.Goals as goal

pub worker_of-requires : goal.worker_of-requires
worker_of-requires g c =
    let was = c.loop-desk.invariant in
    let steps : into_iter_items c.loop-desk.desk-iterator ≡ c.in-Some.desk ∷ into_iter_items c.next.new.self = c.in-Some.ensures.steps.0 in
    let split : c.loop-desk.yielded ++ c.in-Some.desk ∷ into_iter_items c.next.new.self ≡ c.args.desks.items = rw (← steps) was.split ∙ c.into_iter-desk-iterator.ensures.into_iter_gives.0 in
    let desk = next_desk c.args.asked.now.shop _ c.loop-desk.yielded c.in-Some.desk _ _ c.requires.desks split in
    rw (was.number) (posted_at c.args.asked.now.shop _ (length c.loop-desk.yielded + 1) c.requires.desks.table c.in-Some.desk _ desk (c.in_ok-index.ensures ∙ c.requires.index)
    (holds_next (λ (d : DeskValue). IsSeat (seat_of d)) c.loop-desk.yielded c.in-Some.desk _ _ split c.requires.desks.valid))

pub loop-desk-preserved : goal.loop-desk-preserved
loop-desk-preserved g c =
    let was = c.loop-desk.invariant in
    let steps : into_iter_items c.loop-desk.desk-iterator ≡ c.in-Some.desk ∷ into_iter_items c.next.new.self = c.in-Some.ensures.steps.0 in
    let split : c.loop-desk.yielded ++ c.in-Some.desk ∷ into_iter_items c.next.new.self ≡ c.args.desks.items = rw (← steps) was.split ∙ c.into_iter-desk-iterator.ensures.into_iter_gives.0 in
    let desk = next_desk c.args.asked.now.shop _ c.loop-desk.yielded c.in-Some.desk _ _ c.requires.desks split in
    let number : c.loop-desk.number + 1 ≡ c.in-Some.desk.number = sym (ap (λ (d : DeskValue). d.number) desk ∙ omega (arith, was.number)) in
    record {
      can = tt;
      finite = tt;
      split = append_assoc c.loop-desk.yielded (c.in-Some.desk ∷ []) _ ∙ rw (← steps) was.split;
      size = omega (arith, was.size, c.in-Some.ensures.steps.1, ap length steps);
      number = omega (arith, was.number, length-append c.loop-desk.yielded (c.in-Some.desk ∷ []));
      are = rw c.in_ok-push.ensures.items
          (all_zipped_more (IsFirstWorker c.args.asked.now.shop) c.loop-desk.yielded c.loop-desk.workers.items c.in-Some.desk c.in_ok-worker.worker was.are
          (c.in_ok-worker.ensures ∙ ap (λ (n : ℕ). first_state c.in-Some.desk (caller_of c.args.asked.now.shop n)) number));
    }

pub returns : goal.returns
returns g c =
    let was = c.loop-desk.invariant in
    let empty : into_iter_items c.loop-desk.desk-iterator ≡ [] = nil_from_length _ (sym was.size ∙ c.in-None.ensures.steps.0) in
    let whole : c.loop-desk.yielded ≡ c.args.desks.items = sym (append-nil c.loop-desk.yielded) ∙ rw empty at was.split ∙ c.into_iter-desk-iterator.ensures.into_iter_gives.0 in
    subst (λ (desks : List DeskValue). AreFirstWorkers c.args.asked.now.shop desks c.loop-desk.workers.items) whole was.are
