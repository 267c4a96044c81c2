-- What a gateway said is about the calls of its worker, each of one purchase.
use Rattle.std.proofs.Common.{◌≡◌, ⊎_elim, ℕ, ◌+◌, ◌≤◌, ◌<◌, List, [], ◌∷◌, ◌++◌, length, Result, Ok, Err, refl, sym, ap, ◌∙◌, subst, arith}
use Rattle.std.specs.Prelude.{flat_map}
use Rattle.std.specs.List.{Contains}
use Rattle.std.proofs.lemmas.List.Elements.{All-contains, Contains-append_cases}
use Rattle.shop_attempt.specs.Seats.{last_count}
use Rattle.shop_edges.specs.Charges.{ChargeValue, charge_to}
use Rattle.shop_edges.specs.Payments.{IsFor}
use Rattle.shop_edges.specs.declared.charge.Call.{Call}
use Rattle.shop_edges.specs.declared.gateway.Answer.{Answer}
use Rattle.shop_http.specs.declared.requests.Refusal.{Refusal}
use Rattle.shop_http.specs.Requests.{asked}
use Rattle.shop_model.specs.declared.requests.Request.{Request}
use Rattle.shop_model.specs.declared.requests.Request.TheVariants as kind
use Rattle.shop_pages.specs.declared.reply.Form.{Form}
use Rattle.shop_engine.specs.Decided.{call_of}
use Rattle.shop_engine.specs.Payments.{AreFor}
use Rattle.shop_engine.specs.Steps.{Accepts, AreSteps, BeginsOn, IsStepFor, Step, last_call}
use Rattle.shop_engine.specs.Workers.{Standing}

-- answers are about calls behind one and up to another, and charges of one call and so many cents are equal
pub record OfCalls (low high : ℕ) (answers : List Answer) : Type 0 where
  pub behind : (a : Answer) → Contains answers a → low < a.charge.call
  pub within : (a : Answer) → Contains answers a → a.charge.call ≤ high
  pub same : (a b : Answer) → Contains answers a → Contains answers b → a.charge.call ≡ b.charge.call → a.charge.cents ≡ b.charge.cents → a.charge ≡ b.charge

no_answer : (answers : List Answer) (a : Answer) → answers ≡ [] → Contains answers a → ⊥
no_answer answers a none has =
    let empty : Contains [] a = subst (λ (l : List Answer). Contains l a) none has in
    omega (arith, empty.1)

of_none : (low high : ℕ) (answers : List Answer) → answers ≡ [] → OfCalls low high answers
of_none low high answers none = record {
  behind = λ a has. absurd (no_answer answers a none has);
  within = λ a has. absurd (no_answer answers a none has);
  same = λ a b has has' calls cents. absurd (no_answer answers a none has);
}

of_both : (low mid high : ℕ) (first then : List Answer) → low ≤ mid → mid ≤ high → OfCalls low mid first → OfCalls mid high then → OfCalls low high (first ++ then)
of_both low mid high first then least most one other = record {
  behind = λ a has.
      ⊎_elim
      (λ (here : Contains first a). one.behind a here)
      (λ (there : Contains then a). omega (arith, least, other.behind a there))
      (Contains-append_cases first then a has);
  within = λ a has.
      ⊎_elim
      (λ (here : Contains first a). omega (arith, most, one.within a here))
      (λ (there : Contains then a). other.within a there)
      (Contains-append_cases first then a has);
  same = λ a b has has' calls cents.
      ⊎_elim
      (λ (here : Contains first a). ⊎_elim
      (λ (here' : Contains first b). one.same a b here here' calls cents)
      (λ (there' : Contains then b). absurd (omega (arith, one.within a here, other.behind b there', calls)))
      (Contains-append_cases first then b has'))
      (λ (there : Contains then a). ⊎_elim
      (λ (here' : Contains first b). absurd (omega (arith, one.within b here', other.behind a there, calls)))
      (λ (there' : Contains then b). other.same a b there there' calls cents)
      (Contains-append_cases first then b has'))
      (Contains-append_cases first then a has);
}

-- what was said for a request is about its call
for_call : (request : Request) (call : Call) (answers : List Answer) (low : ℕ) → AreFor request call answers → low < call.number → OfCalls low call.number answers
for_call (kind.BuyConfirm asked) call answers low are above =
    let is : (a : Answer) → Contains answers a → IsFor asked call a = λ a has. All-contains (IsFor asked call) answers a are.1 has in
    let number : (a : Answer) → Contains answers a → a.charge.call ≡ call.number = λ a has. ap (λ (c : ChargeValue). c.call) (is a has).charge in
    record {
      behind = λ a has. omega (arith, above, number a has);
      within = λ a has. omega (arith, number a has);
      same = λ a b has has' calls cents.
          let equal : (is a has).cents ≡ (is b has').cents = sym (ap (λ (c : ChargeValue). c.cents) (is a has).charge) ∙ cents ∙ ap (λ (c : ChargeValue). c.cents) (is b has').charge in
          (is a has).charge ∙ ap (charge_to asked call) equal ∙ sym (is b has').charge;
    }
for_call _ call answers low are above = of_none low call.number answers are

-- how many calls a worker accepted, and what was said in them
pub record Calls (from to : Standing) (most : ℕ) (answers : List Answer) : Type 0 where
  pub later : from.progress.accepted ≤ to.progress.accepted
  pub few : to.progress.accepted ≤ from.progress.accepted + most
  pub of : OfCalls from.progress.accepted to.progress.accepted answers

pub no_calls : (from to : Standing) (most : ℕ) (answers : List Answer) → to ≡ from → answers ≡ [] → Calls from to most answers
no_calls from to most answers same none =
    let accepted : to.progress.accepted ≡ from.progress.accepted = ap (λ (s : Standing). s.progress.accepted) same in
    record {
      later = omega (arith, accepted);
      few = omega (arith, accepted);
      of = of_none from.progress.accepted to.progress.accepted answers none;
    }

pub calls_then : (from mid to : Standing) (one more most : ℕ) (first then : List Answer) → Calls from mid one first → Calls mid to more then → one + more ≤ most → Calls from to most (first ++ then)
calls_then from mid to one more most first then p q all = record {
  later = omega (arith, p.later, q.later);
  few = omega (arith, p.few, q.few, all);
  of = of_both from.progress.accepted mid.progress.accepted to.progress.accepted first then p.later q.later p.of q.of;
}

accepted_one : (from to : Standing) → Accepts from to → from.progress.accepted < last_count → to.progress.accepted ≡ from.progress.accepted + 1
accepted_one from to accepts early = omega (arith, accepts.accepted, early)

accepted_call : (from to : Standing) (answers : List Answer) → to.progress.accepted ≡ from.progress.accepted + 1 → OfCalls from.progress.accepted to.progress.accepted answers → Calls from to 1 answers
accepted_call from to answers next of = record {
  later = omega (arith, next);
  few = omega (arith, next);
  of = of;
}

step_calls : (form : Form) (from to : Standing) (step : Step) (asks : Result Request Refusal) → IsStepFor form from step to asks → from.progress.accepted < last_count → Calls from to 1 step.answers
step_calls form from to step (Ok request) is early =
    let next : to.progress.accepted ≡ from.progress.accepted + 1 = accepted_one from to is.accepts early in
    let above : from.progress.accepted < step.point.call = omega (arith, next, is.call) in
    accepted_call from to step.answers next
    (subst (λ n. OfCalls from.progress.accepted n step.answers) is.call (for_call request (call_of to.seat step.point) step.answers from.progress.accepted is.decided.asks above))
step_calls form from to step (Err refusal) is early = no_calls from to 1 step.answers is.stands is.answers

pub steps_calls : (answered : ℕ) (from to : Standing) (steps : List Step) → AreSteps answered from steps to → from.progress.accepted + length steps ≤ last_count → Calls from to (length steps) (flat_map (λ s. s.answers) steps)
steps_calls answered from to [] same fits = no_calls from to 0 [] same refl
steps_calls answered from to (step ∷ steps) (next, is, are) fits =
    let one : Calls from next 1 step.answers = step_calls _ from next step (asked step.message) is (omega (arith, fits)) in
    let more : Calls next to (length steps) (flat_map (λ s. s.answers) steps) = steps_calls (answered + 1) next to steps are (omega (arith, fits, one.few)) in
    calls_then from next to 1 (length steps) (length (step ∷ steps)) step.answers (flat_map (λ s. s.answers) steps) one more (omega arith)

-- a message that was not answered
pub begun_calls : (asks : Result Request Refusal) (from to : Standing) (answers : List Answer) → BeginsOn asks from to answers → from.progress.accepted < last_count → Calls from to 1 answers
begun_calls (Ok request) from to answers begins early =
    ⊎_elim
    (λ (begun : Accepts from to × AreFor request (last_call to) answers).
    let next : to.progress.accepted ≡ from.progress.accepted + 1 = accepted_one from to begun.0 early in
    let above : from.progress.accepted < to.progress.accepted = omega (arith, next) in
    accepted_call from to answers next (for_call request (last_call to) answers from.progress.accepted begun.1 above))
    (λ (none : (to ≡ from) × (answers ≡ [])). no_calls from to 1 answers none.0 none.1)
    begins
begun_calls (Err refusal) from to answers begins early = no_calls from to 1 answers begins.0 begins.1
