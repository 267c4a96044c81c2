-- What one connection leaves, whatever end it came to.
use Rattle.std.proofs.Common.{◌≡◌, ⊎_elim, ℕ, ◌+◌, ◌≤◌, ◌<◌, List, [], ◌∷◌, ◌++◌, map, length, Option, Some, None, Result, Ok, Err, inl, inr, refl, sym, ap, subst, arith, append-nil, length-append}
use Rattle.std.specs.Prelude.{◌⊎◌, option_to_list}
use Rattle.std.proofs.lemmas.List.{length-map}
use Rattle.shop_attempt.specs.Seats.{last_count}
use Rattle.shop_edges.specs.Gateways.{Answered}
use Rattle.shop_edges.specs.declared.gateway.Answer.{Answer}
use Rattle.shop_edges.proofs.cited.Answering.{answered_more}
use Rattle.shop_history.specs.declared.acts.Entry.{Entry}
use Rattle.shop_http.specs.declared.requests.Refusal.{Refusal}
use Rattle.shop_http.specs.Requests.{asked}
use Rattle.shop_message.specs.declared.messages.Message.{Message}
use Rattle.shop_model.specs.declared.requests.Request.{Request}
use Rattle.shop_engine.specs.declared.report.Ended.{Ended}
use Rattle.shop_engine.specs.declared.report.Ended.TheVariants as ended
use Rattle.shop_engine.specs.declared.report.Point.{Point}
use Rattle.shop_engine.specs.Payments.{AreFor}
use Rattle.shop_engine.specs.Seats.{Stays}
use Rattle.shop_engine.specs.Served.{IsAbandoned, Served, Streams}
use Rattle.shop_engine.specs.Steps.{Accepts, AreSteps, BeginsOn, Step, last_call}
use Rattle.shop_engine.specs.Workers.{Standing}
use Rattle.shop_engine.proofs.Seats.{stays_later, stays_trans}
use Rattle.shop_engine.proofs.cited.Stepping.{step_last}
use Rattle.shop_tasks.specs.InTurn.{Account, answers_in, made_in}
use Rattle.shop_tasks.proofs.Calls.{Calls, begun_calls, calls_then, no_calls, steps_calls}

-- what came behind the last answer: nothing, or memory ran out
abbrev IsAfter : Ended → List ℕ → List Message → Standing → Standing → Type 0
IsAfter end given messages mid new = (new ≡ mid) ⊎ ((end ≡ ended.Memory) × IsAbandoned given messages mid new)

-- what the gateway said there
abbrev unanswered_by : (end : Ended) (given : List ℕ) (messages : List Message) (mid new : Standing) → IsAfter end given messages mid new → List Answer
unanswered_by end given messages mid new (inl same) = []
unanswered_by end given messages mid new (inr left) = left.1.gave.answers

begun_last : (asks : Result Request Refusal) (from to : Standing) (answers : List Answer) → BeginsOn asks from to answers → from.progress.last ≤ to.progress.last
begun_last (Ok request) from to answers begins =
    ⊎_elim
    (λ (begun : Accepts from to × AreFor request (last_call to) answers). omega (arith, begun.0.last))
    (λ (none : (to ≡ from) × (answers ≡ [])). omega (arith, ap (λ (s : Standing). s.progress.last) none.0))
    begins
begun_last (Err refusal) from to answers begins = omega (arith, ap (λ (s : Standing). s.progress.last) begins.0)

steps_last : (answered : ℕ) (from to : Standing) (steps : List Step) → AreSteps answered from steps to → from.progress.last ≤ to.progress.last
steps_last answered from to [] same = omega (arith, ap (λ (s : Standing). s.progress.last) same)
steps_last answered from to (step ∷ steps) (next, is, are) = omega (arith, step_last _ from step next is, steps_last (answered + 1) next to steps are)

last_after : (end : Ended) (given : List ℕ) (messages : List Message) (mid new : Standing) → IsAfter end given messages mid new → mid.progress.last ≤ new.progress.last
last_after end given messages mid new (inl same) = omega (arith, ap (λ (s : Standing). s.progress.last) same)
last_after end given messages mid new (inr left) = begun_last (asked left.1.next) mid new left.1.gave.answers left.1.gave.begins

stays_after : (end : Ended) (given : List ℕ) (messages : List Message) (old mid new : Standing) (made : List Entry) (settles : ℕ) → Stays old.seat mid.seat made settles mid.progress.last
    → IsAfter end given messages mid new → (all : ℕ) × Stays old.seat new.seat made all new.progress.last
stays_after end given messages old mid new made settles stays (inl same) =
    (settles, subst (λ (s : Standing). Stays old.seat s.seat made settles s.progress.last) (sym same) stays)
stays_after end given messages old mid new made settles stays (inr left) = (
  settles + left.1.gave.settles,
  subst (λ (l : List Entry). Stays old.seat new.seat l (settles + left.1.gave.settles) new.progress.last) (append-nil made)
      (stays_trans old.seat mid.seat new.seat made [] settles left.1.gave.settles new.progress.last
      (stays_later old.seat mid.seat made settles mid.progress.last new.progress.last stays (begun_last (asked left.1.next) mid new left.1.gave.answers left.1.gave.begins))
      left.1.gave.stays),
)

told_after : (end : Ended) (given : List ℕ) (messages : List Message) (old mid new : Standing) (answers : List Answer) → Answered old.told mid.told answers
    → (after : IsAfter end given messages mid new) → Answered old.told new.told (answers ++ unanswered_by end given messages mid new after)
told_after end given messages old mid new answers told (inl same) =
    subst (λ (l : List Answer). Answered old.told new.told l) (sym (append-nil answers)) (subst (λ (s : Standing). Answered old.told s.told answers) (sym same) told)
told_after end given messages old mid new answers told (inr left) = answered_more old.told mid.told new.told answers left.1.gave.answers told left.1.gave.told

calls_after : (end : Ended) (given : List ℕ) (messages : List Message) (old mid new : Standing) (count : ℕ) (answers : List Answer) → Calls old mid count answers → count ≤ 1_000
    → old.progress.accepted + 1_001 ≤ last_count → (after : IsAfter end given messages mid new) → Calls old new 1_001 (answers ++ unanswered_by end given messages mid new after)
calls_after end given messages old mid new count answers calls few fits (inl same) =
    calls_then old mid new count 0 1_001 answers [] calls (no_calls mid new 0 [] same refl) (omega (arith, few))
calls_after end given messages old mid new count answers calls few fits (inr left) =
    calls_then old mid new count 1 1_001 answers left.1.gave.answers calls
    (begun_calls (asked left.1.next) mid new left.1.gave.answers left.1.gave.begins (omega (arith, calls.few, few, fits))) (omega (arith, few))

one_at_most : (last : Option Message) → length (option_to_list last) ≤ 1
one_at_most None = omega arith
one_at_most (Some message) = omega arith

few_steps : (steps : List Step) (before : List Message) (last : Option Message) → map (λ s. s.message) steps ≡ before ++ option_to_list last → length before < 1_000 → length steps ≤ 1_000
few_steps steps before last are few =
    omega (arith, length-map steps (λ (s : Step). s.message), ap length are, length-append before (option_to_list last), one_at_most last, few)

module _ (old new : Standing) (streams streams' : Streams) (end : Ended) (points : List Point) (served : Served old new streams streams' end points) where
  -- how it went
  abbrev pub account_of : Account
  account_of = record { steps = served.steps; unanswered = unanswered_by end served.given (map (λ s. s.message) served.steps) served.mid new served.after }

  pub served_last : old.progress.last ≤ new.progress.last
  served_last =
      omega (arith, steps_last 0 old served.mid served.steps served.run, last_after end served.given (map (λ s. s.message) served.steps) served.mid new served.after)

  pub served_stays : (all : ℕ) × Stays old.seat new.seat (made_in account_of) all new.progress.last
  served_stays = stays_after end served.given (map (λ s. s.message) served.steps) old served.mid new _ _ served.stays served.after

  pub served_told : Answered old.told new.told (answers_in account_of)
  served_told = told_after end served.given (map (λ s. s.message) served.steps) old served.mid new _ served.asked served.after

  pub served_calls : old.progress.accepted + 1_001 ≤ last_count → Calls old new 1_001 (answers_in account_of)
  served_calls fits =
      let few : length served.steps ≤ 1_000 = few_steps served.steps served.before served.last served.messages served.few in
      calls_after end served.given (map (λ s. s.message) served.steps) old served.mid new (length served.steps) _
      (steps_calls 0 old served.mid served.steps served.run (omega (arith, few, fits))) few fits served.after
