-- One message makes an entry at most, behind the log.
use Rattle.std.proofs.Common.{◌≡◌, ℕ, ◌≤◌, ◌++◌, List, [], ◌∷◌, length, length-append, append-nil, Some, None, IsSome, Result, Ok, Err, slice_get, refl, sym, ◌∙◌, ap, subst, arith}
use Rattle.shop_model.specs.declared.requests.Request.{Request}
use Rattle.shop_model.specs.rows.Lookups.{row_numbered}
use Rattle.shop_history.specs.declared.acts.Entry.{Entry}
use Rattle.shop_history.proofs.cited.Places.{push_here, row_there, some_row}
use Rattle.shop_attempt.specs.Seats.{Seat}
use Rattle.shop_http.specs.declared.requests.Refusal.{Refusal}
use Rattle.shop_http.specs.Requests.{asked}
use Rattle.shop_pages.specs.declared.reply.Form.{Form}
use Rattle.shop_engine.specs.declared.report.Point.{Point}
use Rattle.shop_engine.specs.declared.report.PointKind.{PointKind}
use Rattle.shop_engine.specs.declared.report.PointKind.TheVariants as kind
use Rattle.shop_engine.specs.declared.report.PointKind.TheVariants.{At, Change, Plain}
use Rattle.shop_engine.specs.Connections.{Adds, Turn}
use Rattle.shop_engine.specs.Decided.{CauseAs, Decision}
use Rattle.shop_engine.specs.Steps.{IsStepFor, Step, decision_of}
use Rattle.shop_engine.specs.Workers.{Standing}
use Rattle.shop_keep.specs.Appends.{IsGrown}

few_made : (from to : Seat) (request : Request) (decision : Decision) (of : PointKind) → CauseAs from to request decision of → length decision.made ≤ 1
few_made from to request decision Change cause = omega (arith, ap length cause.0.made_is)
few_made from to request decision At cause = omega (arith, ap length cause.0)
few_made from to request decision kind.List cause = omega (arith, ap length cause.made)
few_made from to request decision Plain cause = absurd cause
few_made from to request decision _ cause = omega (arith, ap length cause.1.0)

few_by : (form : Form) (from to : Standing) (step : Step) (asks : Result Request Refusal) → IsStepFor form from step to asks → length step.made ≤ 1
few_by form from to step (Ok request) is = few_made from.seat to.seat request (decision_of step) step.point.kind is.decided.cause
few_by form from to step (Err refusal) is = omega (arith, ap length is.made)

pub step_grows : (form : Form) (from to : Standing) (step : Step) (asks : Result Request Refusal) → IsStepFor form from step to asks → IsSome from.seat.latest
    → to.seat.seen ≡ from.seat.seen ++ step.made
step_grows form from to step (Ok request) is told = is.decided.stays.alone told
step_grows form from to step (Err refusal) is told = rw (is.stands, is.made) (sym (append-nil from.seat.seen))

-- where the caller is the only one
pub grew_by : (before : ℕ) (turn : Turn) (from to : Standing) (points points' : List Point) (step : Step) → Adds turn from to points points' step
    → IsSome from.seat.latest → before ≡ length from.seat.seen → IsGrown before from.seat.seen to.seat.seen step.made
grew_by before turn from to points points' step adds told count = record {
  count = count;
  grew = step_grows _ from to step (asked step.message) adds.is told;
  few = few_by _ from to step (asked step.message) adds.is;
}

row_pushed : (log : List Entry) (entry : Entry) → row_numbered (log ++ entry ∷ []) (length (log ++ entry ∷ [])) ≡ Some entry
row_pushed log entry =
    let size = length-append log (entry ∷ []) in
    row_there (log ++ entry ∷ []) (length (log ++ entry ∷ [])) entry (record {
      above = omega (arith, size);
      at = subst (λ n. slice_get (log ++ entry ∷ []) n ≡ Some entry) (omega (arith, size)) (push_here log entry);
    })

one_of : (log made : List Entry) (entry : Entry) → length made ≤ 1 → (made ≡ [] → ⊥) → row_numbered (log ++ made) (length (log ++ made)) ≡ Some entry → made ≡ entry ∷ []
one_of log [] entry few some row = absurd (some refl)
one_of log (first ∷ []) entry few some row = let same : Some first ≡ Some entry = sym (row_pushed log first) ∙ row in cc
one_of log (first ∷ (second ∷ others)) entry few some row = absurd (omega (arith, few))

none_of : (made : List Entry) → length made ≡ 0 → made ≡ []
none_of [] none = refl
none_of (first ∷ others) none = absurd (omega (arith, none))

module _ (before : ℕ) (log log' made : List Entry) (grown : IsGrown before log log' made) where
  -- where the log is not longer, nothing was made
  pub none_made : length log' ≤ before → made ≡ []
  none_made few = none_of made (omega (arith, grown.count, ap length grown.grew, length-append log made, few))

  -- and else the last entry was
  pub last_made : (entry : Entry) → (length log' ≤ before → ⊥) → Some entry ≡ row_numbered log' (length log') → made ≡ entry ∷ []
  last_made entry more row =
      one_of log made entry grown.few
      (λ none. more (omega (arith, grown.count, ap length (grown.grew ∙ ap (λ (l : List Entry). log ++ l) none ∙ append-nil log))))
      (subst (λ (l : List Entry). row_numbered l (length l) ≡ Some entry) grown.grew (sym row))

-- a log that has entries has a last one
pub some_last : (log : List Entry) (before : ℕ) → (length log ≤ before → ⊥) → None ≡ row_numbered log (length log) → ⊥
some_last log before more none =
    let last = some_row log (length log) (record { first = omega (arith, more); last = omega arith }) in
    let same : None ≡ Some last.0 = none ∙ last.1 in
    absurd cc
