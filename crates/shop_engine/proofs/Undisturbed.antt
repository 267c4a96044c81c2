-- Why each message has its answer where nothing fails and others change little.
use Rattle.std.proofs.Common.{◌≡◌, ℕ, zero, suc, ◌+◌, ◌-◌, ◌<◌, ◌≤◌, ◌==◌, Bool, true, not, List, [], ◌∷◌, ◌++◌, length, length-append, drop, map, filter, Some, None, Result, Ok, Err, refl, sym, ap, ◌∙◌, subst, arith, eqb, inl, inr}
use Rattle.std.specs.declared.option.Option.{Option}
use Rattle.std.specs.Prelude.{◌⊎◌, slice_get, All, AllPairs, option_map, option_to_list}
use Rattle.std.proofs.lemmas.Bool.{ne_eqb}
use Rattle.std.proofs.lemmas.List.Elements.{All-cons}
use Rattle.std.proofs.lemmas.List.Sums.{sum_by-cons}
use Rattle.shop_attempt.specs.declared.attempts.Conflict.{Conflict}
use Rattle.shop_attempt.specs.Seats.{Seat, Follows}
use Rattle.shop_attempt.proofs.cited.Looks.{follows_trans, looked_self}
use Rattle.shop_edges.specs.Causes.{Rose}
use Rattle.shop_history.specs.declared.acts.Entry.{Entry}
use Rattle.shop_http.specs.declared.requests.Refusal.{Refusal}
use Rattle.shop_http.specs.Requests.{asked}
use Rattle.shop_model.specs.declared.refusal.Refusal.{Refusal as Refused}
use Rattle.shop_model.specs.declared.requests.Request.{Request}
use Rattle.shop_pages.specs.declared.reply.Form.{Form}
use Rattle.shop_engine.specs.declared.report.Ended.{Ended}
use Rattle.shop_engine.specs.declared.report.Ended.TheVariants as ended
use Rattle.shop_engine.specs.declared.report.Point.{Point}
use Rattle.shop_engine.specs.declared.report.PointKind.{PointKind}
use Rattle.shop_engine.specs.declared.report.PointKind.TheVariants as kind
use Rattle.shop_engine.specs.Decided.{CauseAs, Decision, IsMet}
use Rattle.shop_engine.specs.Failures.{RoseBy, failures, failures_as}
use Rattle.shop_engine.specs.Served.{Served, Streams, IsAbandoned}
use Rattle.shop_engine.specs.Steps.{Step, AreSteps, IsStep, IsStepFor, decision_of, plain_point}
use Rattle.shop_engine.specs.Undisturbed.{AreWhole, IsUndisturbed, IsWhole}
use Rattle.shop_engine.specs.Workers.{Standing}
use Rattle.shop_engine.proofs.Conflicts.{conflict_later}
use Rattle.shop_engine.proofs.ConnectionLemmas.{stays_of}

-- how many elements of a kind stand behind the first ones, by the places where some were seen

-- at this place stands an element of the kind
abbrev pub Stands : {X : Type 0} → (X → Bool) → List X → ℕ → Type 0
Stands {X} p xs at = (x : X) × (slice_get xs at ≡ Some x) × (p x ≡ true)

module _ {X : Type 0} (p : X → Bool) where
  one_head : (x : X) (xs : List X) → length (filter p xs) ≤ length (filter p (x ∷ xs))
  one_head x xs = grind arith

  counted : (x : X) (xs : List X) → p x ≡ true → length (filter p (x ∷ xs)) ≡ 1 + length (filter p xs)
  counted x xs is = grind arith

  here : (x y : X) (xs : List X) → slice_get (x ∷ xs) 0 ≡ Some y → p y ≡ true → p x ≡ true
  here x y xs at is = grind arith

  one_more : (xs : List X) (start at : ℕ) → start ≤ at → Stands p xs at → 1 + length (filter p (drop (suc at) xs)) ≤ length (filter p (drop start xs))
  one_more [] start at later stands = grind arith
  one_more (x ∷ xs) zero zero later stands = let head = here x stands.0 xs stands.1 stands.2 in omega (arith, counted x xs head)
  one_more (x ∷ xs) zero (suc at) later stands = omega (arith, one_more xs zero at (omega arith) stands, one_head x xs)
  one_more (x ∷ xs) (suc start) zero later stands = absurd (omega (arith, later))
  one_more (x ∷ xs) (suc start) (suc at) later stands = one_more xs start at (omega (arith, later)) stands

  numbered : (xs : List X) (start number : ℕ) → start < number → Stands p xs (number - 1) → 1 + length (filter p (drop number xs)) ≤ length (filter p (drop start xs))
  numbered xs start number later stands =
      let is : suc (number - 1) ≡ number = omega (arith, later) in
      subst (λ n. 1 + length (filter p (drop n xs)) ≤ length (filter p (drop start xs))) is (one_more xs start (number - 1) (omega (arith, later)) stands)

  -- so many were seen, at numbers that rise
  at_least : {C : Type 0} (number : C → ℕ) (xs : List X) (start : ℕ) (cs : List C) → AllPairs (λ a b. number a < number b) cs
      → All (λ c. (start < number c) × Stands p xs (number c - 1)) cs → length cs ≤ length (filter p (drop start xs))
  at_least number xs start [] rise seen = omega arith
  at_least number xs start (c ∷ cs) rise seen =
      let head = seen 0 c (omega arith) in
      let behind : All (λ c'. (number c < number c') × Stands p xs (number c' - 1)) cs =
      λ k d within. (rise 0 (suc k) d (omega arith) (omega (arith, within)), (seen (suc k) d (omega (arith, within))).1) in
      let more = at_least number xs (number c) cs (λ i j d before within. rise (suc i) (suc j) d (omega (arith, before)) (omega (arith, within))) behind in
      omega (arith, more, numbered xs start (number c) head.0 head.1)

there : {X : Type 0} (xs : List X) (at : ℕ) → at < length xs → (x : X) × (slice_get xs at ≡ Some x)
there [] at within = absurd (omega (arith, within))
there (x ∷ xs) zero within = (x, refl)
there (x ∷ xs) (suc at) within = there xs at (omega (arith, within))

-- the entries that a conflict names are others'

others_stand : (start old new : Seat) (from : ℕ) (request : Request) (draw : ℕ) (conflict : Conflict) → from ≤ length start.seen → Follows old new → IsMet start old request draw conflict
    → (from < conflict.found) × Stands (λ (e : Entry). not (eqb e.caller new.caller)) new.seen (conflict.found - 1)
others_stand start old new from request draw conflict before follows met =
    let is = conflict_later old new conflict follows met.conflicts in
    let entry = there new.seen (conflict.found - 1) (omega (arith, is.overtaken.changed.some, is.overtaken.changed.within)) in
    (omega (arith, met.above, before), (entry.0, entry.1, ap not (ne_eqb entry.0.caller new.caller (is.other entry.0 entry.1))))

-- one answer

whole_by : (first start old new : Seat) (request : Request) (decision : Decision) (of : PointKind) → length first.seen ≤ length start.seen → Follows old new → IsUndisturbed first new
    → failures_as of ≡ 0 → CauseAs start old request decision of → IsWhole of
whole_by first start old new request decision kind.Plain before follows quiet none cause = tt
whole_by first start old new request decision kind.At before follows quiet none cause = tt
whole_by first start old new request decision kind.Change before follows quiet none cause = tt
whole_by first start old new request decision kind.List before follows quiet none cause = tt
whole_by first start old new request decision (kind.Denied charge reason) before follows quiet none cause = tt
whole_by first start old new request decision (kind.Busy conflicts) before follows quiet none cause =
    let busy = cause.0 in
    let many = at_least (λ (e : Entry). not (eqb e.caller new.caller)) (λ (c : Conflict). c.found) new.seen (length first.seen) conflicts busy.rise
    (λ k d within. others_stand start old new (length first.seen) request decision.point.draw _ before follows (busy.met k d within)) in
    absurd (omega (arith, many, busy.eight, quiet.few))
whole_by first start old new request decision kind.Full before follows quiet none cause =
    let grows = ap length follows.grows.is ∙ length-append old.seen follows.grows.rest in
    absurd (omega (arith, grows, cause.0.limit, follows.limit, quiet.room))
whole_by first start old new request decision kind.GatewayFailed before follows quiet none cause = absurd (omega (arith, none))

whole_step : (form : Form) (first new : Seat) (from : Standing) (step : Step) (to : Standing) (asks : Result Request Refusal) → IsStepFor form from step to asks → length first.seen ≤ length from.seat.seen
    → Follows to.seat new → IsUndisturbed first new → failures_as step.point.kind ≡ 0 → IsWhole step.point.kind
whole_step form first new from step to (Ok request) is before follows quiet none = whole_by first from.seat to.seat new request (decision_of step) step.point.kind before follows quiet none is.decided.cause
whole_step form first new from step to (Err refusal) is before follows quiet none = subst (λ (p : Point). IsWhole p.kind) (sym is.point) tt

-- all answers of a connection

step_grows : (answers : ℕ) (from to : Standing) (step : Step) → IsStep ((answers + 1) == 1000) from step to → Follows from.seat to.seat
step_grows answers from to step is = (stays_of answers from to (step ∷ []) (to, is, refl)).follows

none_failed : (point : Point) (points : List Point) → failures (point ∷ points) ≡ 0 → (failures_as point.kind ≡ 0) × (failures points ≡ 0)
none_failed point points none =
    let sum = sum_by-cons (λ (p : Point). failures_as p.kind) point points in (omega (arith, sum, none), omega (arith, sum, none))

module _ (first new : Seat) (quiet : IsUndisturbed first new) (rest : List Point) (rest_whole : AreWhole rest) where
  whole_points : (answers : ℕ) (from to : Standing) (steps : List Step) → AreSteps answers from steps to → length first.seen ≤ length from.seat.seen → Follows to.seat new
      → failures (map (λ s. s.point) steps ++ rest) ≡ 0 → AreWhole (map (λ s. s.point) steps ++ rest)
  whole_points answers from to [] same before follows none = rest_whole
  whole_points answers from to (step ∷ steps) (next, is, are) before follows none =
      let behind = follows_trans next.seat to.seat new (stays_of (answers + 1) next to steps are).follows follows in
      let grows = (step_grows answers from next step is).grows in
      let later : length first.seen ≤ length next.seat.seen = omega (arith, before, ap length grows.is ∙ length-append from.seat.seen grows.rest) in
      let sums = none_failed step.point (map (λ (s : Step). s.point) steps ++ rest) none in
      All-cons (λ (p : Point). IsWhole p.kind) step.point _ (whole_step _ first new from step next (asked step.message) is before behind quiet sums.0)
      (whole_points (answers + 1) next to steps are later follows sums.1)

rest_is_whole : (told : Option Refused) → AreWhole (option_to_list (option_map (λ _. plain_point) told))
rest_is_whole None = λ k d within. absurd (omega (arith, within))
rest_is_whole (Some refusal) = All-cons (λ (p : Point). IsWhole p.kind) plain_point [] tt (λ k d within. absurd (omega (arith, within)))

ends_behind : (given : List ℕ) (end : Ended) (messages : List _) (mid new : Standing) → (new ≡ mid) ⊎ ((end ≡ ended.Memory) × IsAbandoned given messages mid new) → Follows mid.seat new.seat
ends_behind given end messages mid new (inl same) = subst (λ (s : Standing). Follows mid.seat s.seat) (sym same) (looked_self mid.seat).follows
ends_behind given end messages mid new (inr (memory, left)) = left.gave.stays.follows

none_rose : (before more now : ℕ) → RoseBy before more now → (Rose before now → ⊥) → more ≡ 0
none_rose before zero now rose not_rose = refl
none_rose before (suc more) now rose not_rose = absurd (not_rose (omega (arith, rose)))

-- where the count of the gateway's faults did not rise
pub all_whole : (old new : Standing) (streams streams' : Streams) (end : Ended) (points : List Point) (before now : ℕ) → Served old new streams streams' end points → IsUndisturbed old.seat new.seat
    → RoseBy before (failures points) now → (Rose before now → ⊥) → AreWhole points
all_whole old new streams streams' end points before now served quiet rose kept =
    let rest = option_to_list (option_map (λ _. plain_point) served.told) in
    let none = none_rose before (failures points) now rose kept in
    subst AreWhole (sym served.all)
    (whole_points old.seat new.seat quiet rest (rest_is_whole served.told) 0 old served.mid served.steps served.run (omega arith)
    (ends_behind served.given end _ served.mid new served.after) (subst (λ l. failures l ≡ 0) served.all none))
