use Rattle.std.proofs.Common.{[], append-nil, refl, arith, ap, ◌∙◌}
use Rattle.std.proofs.lemmas.Bool.{iff_false}
use Rattle.shop_edges.proofs.cited.Known.{Consumes-kept, Consumes-nothing, Consumes-more}
use Rattle.shop_message.specs.Gatherings.{Gathering}
use Rattle.shop_message.specs.declared.messages.Next.TheVariants as next
use Rattle.shop_message.proofs.cited.Nexts.{IsNext-behind}
use Rattle.shop_message.proofs.NextLemmas.{Gathers-none, Gathers-piece, Gathers-same, Stops-refused, Stops-between, Stops-inside, Breaks-part}
use Rattle.shop_polled.proofs.reading.poll_message.Goals as goal

pub returns-in-Message-clause-next : goal.returns-in-Message-clause-next
returns-in-Message-clause-next g c =
    IsNext-behind _ _ _ _ _ _ c.loop-message.invariant.gathers (next.Message c.in-Message.message)
    (record { piece = []; taken = Consumes-nothing _; first = λ more. rw append-nil (c.in-Message.ensures.gathered.first more) })

pub returns-in-Bad-clause-next : goal.returns-in-Bad-clause-next
returns-in-Bad-clause-next g c = Stops-refused _ _ _ _ _ _ c.loop-message.invariant.gathers c.in-Bad.ensures.gathered

pub loop-message-preserved : goal.loop-message-preserved
loop-message-preserved g c = record {
  gathers =
      Gathers-piece _ _ _ _ _ _ _ (Gathers-same _ _ _ _ _ c.loop-message.invariant.gathers c.in-More.ensures.gathered.1.same)
      (rw c.in-Bytes.is at c.in-Ready.ensures.bytes) (ap (λ (s : Gathering). s.held) c.in-Ok.ensures.ok);
  ended = ap (λ (s : Gathering). s.ended) c.in-Ok.ensures.ok ∙ c.take.ensures.ended ∙ c.loop-message.invariant.ended;
  size = c.poll_read.auto.into ∙ c.loop-message.invariant.size;
  later = omega (arith, c.loop-message.invariant.later, (rw c.in-Bytes.is at c.in-Ready.ensures.cause).later);
  waits = omega (arith, c.loop-message.invariant.waits, c.in-Ready.ensures.waits);
  kept = λ fact held. c.poll_read.ensures.kept fact (c.loop-message.invariant.kept fact held);
}

pub returns-in_default-clause-next : goal.returns-in_default-clause-next
returns-in_default-clause-next g c = (
  _,
  Consumes-more _ _ _ _ _ c.loop-message.invariant.gathers.taken (rw c.in-Bytes.is at c.in-Ready.ensures.bytes),
)

pub returns-then-is_empty-clause-next : goal.returns-then-is_empty-clause-next
returns-then-is_empty-clause-next g c =
    let ended = rw c.in-End-got.is at c.in-Ready.ensures.bytes in
    let none = Gathers-none _ _ _ _ _ _ _ c.loop-message.invariant.gathers c.in-More.ensures.gathered.1 ended.0 refl in
    Stops-between _ _ _ _ none.0 (c.is_empty.ensures.0 c.if-is_empty.true) ended.1

pub returns-in-End-got-clause-next : goal.returns-in-End-got-clause-next
returns-in-End-got-clause-next g c =
    let ended = rw c.in-End-got.is at c.in-Ready.ensures.bytes in
    let none = Gathers-none _ _ _ _ _ _ _ c.loop-message.invariant.gathers c.in-More.ensures.gathered.1 ended.0 refl in
    Stops-inside _ _ _ _ none.0 none.1 (iff_false c.is_empty.ensures c.if-is_empty.false) ended.1

pub returns-in-Failed-clause-next : goal.returns-in-Failed-clause-next
returns-in-Failed-clause-next g c =
    let kept = rw c.in-Failed.is at c.in-Ready.ensures.bytes in
    let none = Gathers-none _ _ _ _ _ _ _ c.loop-message.invariant.gathers c.in-More.ensures.gathered.1 (Consumes-kept _ _ _ [] (Consumes-nothing _) kept) refl in
    Breaks-part _ _ _ _ none.0 none.1
