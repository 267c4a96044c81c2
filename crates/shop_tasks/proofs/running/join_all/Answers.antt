use Rattle.std.proofs.Common.{rules, subst, ◌≡◌, ◌∙◌, ◌∷◌, [], length, append_assoc, append-nil, sym, ap, arith}
use Rattle.std.specs.List.{All}
use Rattle.std.specs.Vec.Iter.{into_iter_items}
use Rattle.std.proofs.lemmas.List.Elements.{All-nil}
use Rattle.std.proofs.lemmas.List.{nil_from_length}
use Rattle.shop_tasks.specs.TaskValues.{RacedValue}
use Rattle.shop_tasks.specs.Tasks.{IsGiven}
use Rattle.shop_tasks.proofs.Tasks.{given_later, given_more, joined_more}
use Rattle.shop_tasks.proofs.running.join_all.Goals as goal

pub loop-ticket-init : goal.loop-ticket-init
loop-ticket-init g c = record {
  can = search rules;
  finite = search rules;
  split = search rules;
  size = search rules;
  given = λ all. ([], tt, c.requires.none);
  each = subst (All (IsGiven g.C.Clock.readings [])) (sym c.requires.none) (All-nil (IsGiven g.C.Clock.readings []));
  room = search rules;
}

pub loop-ticket-preserved-in-Ok : goal.loop-ticket-preserved-in-Ok
loop-ticket-preserved-in-Ok g c =
    let was = c.loop-ticket.invariant in
    let steps : into_iter_items c.loop-ticket.ticket-iterator ≡ c.in-Some.ticket ∷ into_iter_items c.next.new.self = c.in-Some.ensures.steps.0 in
    record {
      can = tt;
      finite = tt;
      split = append_assoc c.loop-ticket.yielded (c.in-Some.ticket ∷ []) _ ∙ rw (← steps) was.split;
      size = omega (arith, was.size, c.in-Some.ensures.steps.1, ap length steps);
      given = λ all. joined_more g.C.Clock.readings _ _ _ _ _ _ (was.given all) c.in-Ok.ensures c.push_reserved.ensures.items (ap (λ (r : RacedValue). r.desk) c.raced.view_is);
      each = given_more g.C.Clock.readings _ _ _ _ _ _ was.each c.in-Ok.ensures c.push_reserved.ensures.items (ap (λ (r : RacedValue). r.desk) c.raced.view_is);
      room = omega (arith, was.room, ap length steps, c.push_reserved.ensures.len, c.push_reserved.ensures.capacity);
    }

pub loop-ticket-preserved : goal.loop-ticket-preserved
loop-ticket-preserved g c =
    let was = c.loop-ticket.invariant in
    let steps : into_iter_items c.loop-ticket.ticket-iterator ≡ c.in-Some.ticket ∷ into_iter_items c.next.new.self = c.in-Some.ensures.steps.0 in
    record {
      can = tt;
      finite = tt;
      split = append_assoc c.loop-ticket.yielded (c.in-Some.ticket ∷ []) _ ∙ rw (← steps) was.split;
      size = omega (arith, was.size, c.in-Some.ensures.steps.1, ap length steps);
      given = λ all. absurd cc;
      each = given_later g.C.Clock.readings _ _ _ was.each;
      room = omega (arith, was.room, ap length steps);
    }

pub returns : goal.returns
returns g c =
    let was = c.loop-ticket.invariant in
    let empty : into_iter_items c.loop-ticket.ticket-iterator ≡ [] = nil_from_length _ (sym was.size ∙ c.in-None.ensures.steps.0) in
    let whole : c.loop-ticket.yielded ≡ c.args.tickets.items = sym (append-nil c.loop-ticket.yielded) ∙ rw empty at was.split ∙ c.into_iter-ticket-iterator.ensures.into_iter_gives.0 in
    record { given = λ all. rw (sym whole) (was.given all); each = rw (sym whole) was.each }
