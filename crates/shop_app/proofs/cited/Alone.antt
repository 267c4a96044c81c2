-- Over a store that one caller has, which may have entries already, each answer is settled at once, and the log is what the changes made.
use Rattle.std.proofs.Common.{◌≡◌, ℕ, ◌+◌, ◌≤◌, max, List, [], ◌∷◌, ◌++◌, map, Option, Some, None, IsSome, Result, Ok, Err, ◌⊎◌, ⊎_elim, inl, inr, refl, sym, ◌∙◌, ap, subst, arith, append-nil}
use Rattle.std.specs.Prelude.{All, flat_map, option_map, option_to_list}
use Rattle.std.proofs.lemmas.List.{map-append}
use Rattle.std.proofs.lemmas.List.Concat.{flat_map-append}
use Rattle.std.proofs.lemmas.List.Elements.{All-cons, All-nil, All-append}
use Rattle.shop_message.specs.declared.messages.Message.{Message}
use Rattle.shop_model.specs.declared.refusal.Refusal.{Refusal as Refused}
use Rattle.shop_model.specs.declared.requests.Request.{Request}
use Rattle.shop_history.specs.declared.acts.Entry.{Entry}
use Rattle.shop_http.specs.declared.requests.Refusal.{Refusal}
use Rattle.shop_http.specs.Requests.{asked}
use Rattle.shop_pages.specs.declared.reply.Form.{Form}
use Rattle.shop_engine.specs.declared.report.Ended.{Ended}
use Rattle.shop_engine.specs.declared.report.Ended.TheVariants as ended
use Rattle.shop_engine.specs.declared.report.Point.{Point}
use Rattle.shop_engine.specs.declared.report.PointKind.{PointKind}
use Rattle.shop_engine.specs.declared.report.PointKind.TheVariants as kind
use Rattle.shop_engine.specs.declared.report.PointKind.TheVariants.{Plain, At, Change, Busy}
use Rattle.shop_engine.specs.Decided.{CauseAs, tries_alone}
use Rattle.shop_engine.specs.Served.{IsAbandoned, Served, Streams}
use Rattle.shop_engine.specs.Steps.{Step, IsStepFor, AreSteps, decision_of, plain_point}
use Rattle.shop_engine.specs.Workers.{Standing}
use Rattle.shop_app.specs.Session.{IsAtOnce, IsSettled, moment_as, moments_of}

-- a caller who has the shop alone, whose log began with this latest stamp, 0 where it was empty: its latest stamp is no
-- earlier, and no later than that one and the last moment
pub record IsAlone (first : ℕ) (here : Standing) : Type 0 where
  pub stamp : ℕ
  pub latest : here.seat.latest ≡ Some stamp
  pub since : first ≤ stamp
  pub within : stamp ≤ max first here.progress.last

pub is_told : (first : ℕ) (here : Standing) → IsAlone first here → IsSome here.seat.latest
is_told first here alone = subst IsSome (sym alone.latest) refl

pub alone_next : (first : ℕ) (form : Form) (from to : Standing) (step : Step) (asks : Result Request Refusal) → IsStepFor form from step to asks → IsAlone first from → IsAlone first to
alone_next first form from to step (Ok request) is alone =
    let rose = is.decided.stays.stamp alone.stamp alone.latest in
    record {
      stamp = rose.0;
      latest = rose.1;
      since = omega (arith, rose.2, alone.since);
      within = omega (arith, rose.3, alone.within, is.moment, is.accepts.last);
    }
alone_next first form from to step (Err refusal) is alone = subst (IsAlone first) (sym is.stands) alone

-- a point is settled at once, or it tells a refusal

abbrev pub IsQuick : Point → Type 0
IsQuick point = (point ≡ plain_point) ⊎ IsAtOnce point

once : (from to : Standing) (step : Step) (request : Request) (kind : PointKind) → step.point.kind ≡ kind → step.point.tries ≡ tries_alone kind
    → CauseAs from.seat to.seat request (decision_of step) kind → IsAtOnce step.point
once from to step request (Busy conflicts) is tries cause = absurd (omega (arith, tries, cause.0.tries))
once from to step request Plain is tries cause = absurd cause
once from to step request _ is tries cause = record { settled = subst IsSettled (sym is) tt; tries = tries ∙ ap tries_alone (sym is) }

pub quick : (first : ℕ) (form : Form) (from to : Standing) (step : Step) (asks : Result Request Refusal) → IsStepFor form from step to asks → IsAlone first from → IsQuick step.point
quick first form from to step (Ok request) is alone = inr (once from to step request step.point.kind refl (is.decided.alone (is_told first from alone)) is.decided.cause)
quick first form from to step (Err refusal) is alone = inl is.point

pub steps_once : (first answers : ℕ) (from to : Standing) (steps : List Step) → AreSteps answers from steps to → IsAlone first from → All IsQuick (map (λ s. s.point) steps)
steps_once first answers from to [] are alone = All-nil IsQuick
steps_once first answers from to (step ∷ steps) (next, is, are) alone =
    All-cons IsQuick step.point (map (λ (s : Step). s.point) steps) (quick first _ from next step (asked step.message) is alone)
    (steps_once first (answers + 1) next to steps are (alone_next first _ from next step (asked step.message) is alone))

told_once : (told : Option Refused) → All IsQuick (option_to_list (option_map (λ _. plain_point) told))
told_once None = All-nil IsQuick
told_once (Some refusal) = All-cons IsQuick plain_point [] (inl refl) (All-nil IsQuick)

-- the stamps of changes are their moments, but none is earlier than the stamp that the log began with

pub none_later : (moments : List ℕ) → map (max 0) moments ≡ moments
none_later [] = refl
none_later (moment ∷ moments) =
    let same : max 0 moment ≡ moment = omega arith in
    ap (λ n. n ∷ map (max 0) moments) same ∙ ap (λ (l : List ℕ). moment ∷ l) (none_later moments)

stamp_made : (first : ℕ) (from to : Standing) (step : Step) (request : Request) (kind : PointKind) → IsAlone first from → from.progress.last ≤ step.point.moment
    → CauseAs from.seat to.seat request (decision_of step) kind → map (λ e. e.stamp) step.made ≡ map (max first) (moment_as step.point.moment kind)
stamp_made first from to step request Change alone later cause =
    let stamp : cause.0.entry.stamp ≡ max first step.point.moment = omega (arith, cause.0.exact alone.stamp alone.latest, alone.since, alone.within, later) in
    ap (map (λ (e : Entry). e.stamp)) cause.0.made_is ∙ ap (λ n. n ∷ []) stamp
stamp_made first from to step request At alone later cause = ap (map (λ (e : Entry). e.stamp)) cause.0
stamp_made first from to step request kind.List alone later cause = ap (map (λ (e : Entry). e.stamp)) cause.made
stamp_made first from to step request Plain alone later cause = absurd cause
stamp_made first from to step request _ alone later cause = ap (map (λ (e : Entry). e.stamp)) cause.1.0

pub stamps_of : (first : ℕ) (form : Form) (from to : Standing) (step : Step) (asks : Result Request Refusal) → IsStepFor form from step to asks → IsAlone first from
    → map (λ e. e.stamp) step.made ≡ map (max first) (moment_as step.point.moment step.point.kind)
stamps_of first form from to step (Ok request) is alone =
    stamp_made first from to step request step.point.kind alone (omega (arith, is.moment, is.accepts.last)) is.decided.cause
stamps_of first form from to step (Err refusal) is alone = rw (is.made, is.point) refl

pub stamps_made : (first answers : ℕ) (from to : Standing) (steps : List Step) → AreSteps answers from steps to → IsAlone first from
    → map (λ e. e.stamp) (flat_map (λ s. s.made) steps) ≡ map (max first) (moments_of (map (λ s. s.point) steps))
stamps_made first answers from to [] are alone = refl
stamps_made first answers from to (step ∷ steps) (next, is, are) alone =
    map-append (λ (e : Entry). e.stamp) step.made (flat_map (λ (s : Step). s.made) steps)
    ∙ ap (λ (l : List ℕ). l ++ map (λ (e : Entry). e.stamp) (flat_map (λ (s : Step). s.made) steps)) (stamps_of first _ from next step (asked step.message) is alone)
    ∙ ap (λ (l : List ℕ). map (max first) (moment_as step.point.moment step.point.kind) ++ l)
    (stamps_made first (answers + 1) next to steps are (alone_next first _ from next step (asked step.message) is alone))
    ∙ sym (map-append (max first) (moment_as step.point.moment step.point.kind) (moments_of (map (λ (s : Step). s.point) steps)))

moments_told : (told : Option Refused) → moments_of (option_to_list (option_map (λ _. plain_point) told)) ≡ []
moments_told None = refl
moments_told (Some refusal) = refl

-- what came behind the last answer left the tables and the log

after_alone : (end : Ended) (given : List ℕ) (messages : List Message) (mid new : Standing) → (new ≡ mid) ⊎ ((end ≡ ended.Memory) × IsAbandoned given messages mid new) → IsSome mid.seat.latest
    → (new.seat.opening ≡ mid.seat.opening) × (new.seat.seen ≡ mid.seat.seen)
after_alone end given messages mid new after told = ⊎_elim
    (λ (same : new ≡ mid). (ap (λ (s : Standing). s.seat.opening) same, ap (λ (s : Standing). s.seat.seen) same))
    (λ (gave : (end ≡ ended.Memory) × IsAbandoned given messages mid new). (gave.1.gave.stays.follows.opening, gave.1.gave.stays.alone told ∙ append-nil mid.seat.seen))
    after

-- a connection of the only caller
module _ (first : ℕ) (old new : Standing) (streams streams' : Streams) (end : Ended) (points : List Point) (served : Served old new streams streams' end points) (alone : IsAlone first old) where
  still_told : IsSome served.mid.seat.latest
  still_told = subst IsSome (sym (served.stays.stamp alone.stamp alone.latest).1) refl

  pub opening_same : new.seat.opening ≡ old.seat.opening
  opening_same = (after_alone end served.given (map (λ s. s.message) served.steps) served.mid new served.after still_told).0 ∙ served.stays.follows.opening

  pub log_made : new.seat.seen ≡ old.seat.seen ++ flat_map (λ s. s.made) served.steps
  log_made = (after_alone end served.given (map (λ s. s.message) served.steps) served.mid new served.after still_told).1 ∙ served.stays.alone (is_told first old alone)

  pub all_at_once : All (λ p. (p ≡ plain_point) ⊎ IsAtOnce p) points
  all_at_once =
      subst (All IsQuick) (sym served.all)
      (All-append IsQuick (map (λ (s : Step). s.point) served.steps) (option_to_list (option_map (λ _. plain_point) served.told))
      (steps_once first 0 old served.mid served.steps served.run alone) (told_once served.told))

  pub stamps_are : map (λ e. e.stamp) (flat_map (λ s. s.made) served.steps) ≡ map (max first) (moments_of points)
  stamps_are =
      let answered : List Point = map (λ (s : Step). s.point) served.steps in
      let told : List Point = option_to_list (option_map (λ _. plain_point) served.told) in
      let all : moments_of answered ≡ moments_of points =
      sym (append-nil (moments_of answered))
      ∙ ap (λ (l : List ℕ). moments_of answered ++ l) (sym (moments_told served.told))
      ∙ sym (flat_map-append (λ (p : Point). moment_as p.moment p.kind) answered told)
      ∙ ap moments_of (sym served.all) in
      stamps_made first 0 old served.mid served.steps served.run alone ∙ ap (map (max first)) all
