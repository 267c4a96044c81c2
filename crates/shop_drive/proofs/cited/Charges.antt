-- Over turns of one worker, charges of one call and so many cents are equal: each call is of one purchase.
use Rattle.std.proofs.Common.{◌≡◌, ⊎_elim, ℕ, ◌+◌, ◌≤◌, ◌<◌, List, [], ◌∷◌, length, Result, Ok, Err, sym, ap, ◌∙◌, subst, arith}
use Rattle.std.specs.Prelude.{flat_map}
use Rattle.std.specs.List.{Contains}
use Rattle.std.proofs.lemmas.List.Elements.{All-contains, Contains-append_cases}
use Rattle.shop_attempt.specs.Seats.{Seat, last_count}
use Rattle.shop_edges.specs.Charges.{ChargeValue, charge_to}
use Rattle.shop_edges.specs.Payments.{IsFor}
use Rattle.shop_edges.specs.declared.gateway.Answer.{Answer}
use Rattle.shop_http.specs.declared.requests.Refusal.{Refusal}
use Rattle.shop_http.specs.Requests.{asked}
use Rattle.shop_model.specs.declared.requests.Request.{Request}
use Rattle.shop_model.specs.declared.requests.Request.TheVariants as kind
use Rattle.shop_pages.specs.declared.reply.Form.{Form}
use Rattle.shop_engine.specs.declared.report.Point.{Point}
use Rattle.shop_engine.specs.Decided.{call_of}
use Rattle.shop_engine.specs.Payments.{AreFor}
use Rattle.shop_engine.specs.Steps.{Step, IsStepFor}
use Rattle.shop_engine.specs.Workers.{Standing}
use Rattle.shop_drive.specs.Turns.{Stage, Turn, AreTurns}

-- the answers are about one call of one purchase
pub record OfOne (call : ℕ) (answers : List Answer) : Type 0 where
  pub calls : (a : Answer) → Contains answers a → a.charge.call ≡ call
  pub same : (a b : Answer) → Contains answers a → Contains answers b → a.charge.cents ≡ b.charge.cents → a.charge ≡ b.charge

no_answer : (a : Answer) → Contains [] a → ⊥
no_answer a has = omega (arith, has.1)

none_of_one : (call : ℕ) (answers : List Answer) → answers ≡ [] → OfOne call answers
none_of_one call answers none = record {
  calls = λ a has. absurd (no_answer a (subst (λ (l : List Answer). Contains l a) none has));
  same = λ a b has has' cents. absurd (no_answer a (subst (λ (l : List Answer). Contains l a) none has));
}

for_one : (request : Request) (seat : Seat) (point : Point) (answers : List Answer) → AreFor request (call_of seat point) answers → OfOne point.call answers
for_one (kind.BuyConfirm asked) seat point answers are = record {
  calls = λ a has. let is = All-contains (IsFor asked (call_of seat point)) answers a are.1 has in ap (λ (c : ChargeValue). c.call) is.charge;
  same = λ a b has has' cents.
      let is = All-contains (IsFor asked (call_of seat point)) answers a are.1 has in
      let other = All-contains (IsFor asked (call_of seat point)) answers b are.1 has' in
      let equal : is.cents ≡ other.cents = sym (ap (λ (c : ChargeValue). c.cents) is.charge) ∙ cents ∙ ap (λ (c : ChargeValue). c.cents) other.charge in
      is.charge ∙ ap (charge_to asked (call_of seat point)) equal ∙ sym other.charge;
}
for_one _ seat point answers are = none_of_one point.call answers are

-- a step's answers are about its call, which is the next one
step_of_one : (form : Form) (from to : Standing) (step : Step) (asks : Result Request Refusal) → IsStepFor form from step to asks → OfOne to.progress.accepted step.answers
step_of_one form from to step (Ok request) is = subst (λ n. OfOne n step.answers) is.call (for_one request to.seat step.point step.answers is.decided.asks)
step_of_one form from to step (Err refusal) is = none_of_one to.progress.accepted step.answers is.answers

-- the count of accepted requests rises by one where the step has answers, and never falls
call_later : (form : Form) (from to : Standing) (step : Step) (asks : Result Request Refusal) → IsStepFor form from step to asks → from.progress.accepted < last_count
    → (from.progress.accepted ≤ to.progress.accepted) × (to.progress.accepted ≤ from.progress.accepted + 1) × ((a : Answer) → Contains step.answers a → from.progress.accepted < to.progress.accepted)
call_later form from to step (Ok request) is early =
    let next = is.accepts.accepted in (omega (arith, next, early), omega (arith, next), λ a has. omega (arith, next, early))
call_later form from to step (Err refusal) is early =
    let same : to.progress.accepted ≡ from.progress.accepted = ap (λ (s : Standing). s.progress.accepted) is.stands in
    (omega (arith, same), omega (arith, same), λ a has. absurd (no_answer a (subst (λ (l : List Answer). Contains l a) is.answers has)))

abbrev answers_in : List Turn → List Answer
answers_in turns = flat_map (λ t. t.step.answers) turns

-- the calls of what was answered are behind those before
calls_behind : (from to : Stage) (turns : List Turn) → AreTurns from turns to → from.worker.progress.accepted + length turns ≤ last_count
    → (a : Answer) → Contains (answers_in turns) a → from.worker.progress.accepted < a.charge.call
calls_behind from to [] are few a has = absurd (no_answer a has)
calls_behind from to (turn ∷ turns) (next, is, are) few a has =
    let later = call_later _ from.worker next.worker turn.step (asked turn.step.message) is.asks.answered (omega (arith, few)) in
    let one = step_of_one _ from.worker next.worker turn.step (asked turn.step.message) is.asks.answered in
    ⊎_elim (λ (here : Contains turn.step.answers a). omega (arith, later.2 a here, one.calls a here))
    (λ (there : Contains (answers_in turns) a). omega (arith, later.0, calls_behind next to turns are (omega (arith, later.1, few)) a there))
    (Contains-append_cases turn.step.answers (answers_in turns) a has)

-- charges of one call and so many cents are equal
pub charges_apart : (from to : Stage) (turns : List Turn) → AreTurns from turns to → from.worker.progress.accepted + length turns ≤ last_count
    → (a b : Answer) → Contains (answers_in turns) a → Contains (answers_in turns) b → a.charge.call ≡ b.charge.call → a.charge.cents ≡ b.charge.cents → a.charge ≡ b.charge
charges_apart from to [] are few a b has has' calls cents = absurd (no_answer a has)
charges_apart from to (turn ∷ turns) (next, is, are) few a b has has' calls cents =
    let later = call_later _ from.worker next.worker turn.step (asked turn.step.message) is.asks.answered (omega (arith, few)) in
    let one = step_of_one _ from.worker next.worker turn.step (asked turn.step.message) is.asks.answered in
    let fewer : next.worker.progress.accepted + length turns ≤ last_count = omega (arith, later.1, few) in
    ⊎_elim
    (λ (here : Contains turn.step.answers a). ⊎_elim
    (λ (here' : Contains turn.step.answers b). one.same a b here here' cents)
    (λ (there' : Contains (answers_in turns) b). absurd (omega (arith, one.calls a here, calls_behind next to turns are fewer b there', calls)))
    (Contains-append_cases turn.step.answers (answers_in turns) b has'))
    (λ (there : Contains (answers_in turns) a). ⊎_elim
    (λ (here' : Contains turn.step.answers b). absurd (omega (arith, one.calls b here', calls_behind next to turns are fewer a there, calls)))
    (λ (there' : Contains (answers_in turns) b). charges_apart next to turns are fewer a b there there' calls cents)
    (Contains-append_cases turn.step.answers (answers_in turns) b has'))
    (Contains-append_cases turn.step.answers (answers_in turns) a has)
