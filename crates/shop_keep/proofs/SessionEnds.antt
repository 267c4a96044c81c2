-- The status of a kept connection by its end.
use Rattle.std.proofs.Common.{◌≡◌, ℕ, ◌+◌, ◌≤◌, max, inl, inr, List, [], ◌∷◌, ◌++◌, map, append_assoc, append-nil, Option, Result, Ok, Err, subst, refl, sym, ap, ◌∙◌, arith, All}
use Rattle.std.specs.Option.{ForSome}
use Rattle.std.specs.Prelude.{flat_map, is_some, true}
use Rattle.std.proofs.lemmas.List.{append_cancel_left}
use Rattle.shop_edges.specs.Causes.{Rose}
use Rattle.shop_edges.specs.declared.gateway.Answer.{Answer}
use Rattle.shop_disk.specs.DiskStates.{DiskState}
use Rattle.shop_model.specs.declared.requests.Request.{Request}
use Rattle.shop_model.specs.declared.tables.Tables.{Tables}
use Rattle.shop_history.specs.declared.acts.Entry.{Entry}
use Rattle.shop_history.specs.Lawful.{IsLawful}
use Rattle.shop_book.specs.Solos.{SoloValue, seat_of}
use Rattle.shop_http.specs.declared.requests.Refusal.{Refusal}
use Rattle.shop_http.specs.Requests.{asked}
use Rattle.shop_pages.specs.declared.reply.Form.{Form}
use Rattle.shop_journal.specs.Runs as journal
use Rattle.shop_journal.specs.Runs.{run_from}
use Rattle.shop_replay.specs.Replays.{IsLog, last_stamp}
use Rattle.shop_engine.specs.declared.report.Ended.{Ended}
use Rattle.shop_engine.specs.declared.report.Ended.TheVariants as ended
use Rattle.shop_engine.specs.declared.report.Point.{Point}
use Rattle.shop_engine.specs.Failures.{RoseBy, failures}
use Rattle.shop_engine.specs.Fresh.{IsFreshIn}
use Rattle.shop_engine.specs.Served.{Served}
use Rattle.shop_engine.specs.Steps.{AreSteps, IsStepFor, Step}
use Rattle.shop_engine.specs.Workers.{Standing, WorkerState, at_first, standing}
use Rattle.shop_engine.proofs.cited.SoFar.{OneMore, one_more}
use Rattle.shop_words.specs.declared.command.Session.{Session}
use Rattle.shop_app.specs.Outside.{Run}
use Rattle.shop_app.specs.Session.{first_caller, moments_of}
use Rattle.shop_app.proofs.cited.Alone.{IsAlone, IsQuick, all_at_once, alone_next, is_told, log_made, opening_same, stamps_are, stamps_made, steps_once}
use Rattle.shop_keep.specs.declared.kept.KeptEnd.{KeptEnd}
use Rattle.shop_keep.specs.declared.kept.KeptEnd.TheVariants as kept_end
use Rattle.shop_keep.specs.Appends.{KeepsLog}
use Rattle.shop_keep.specs.Files.{HasEntries, head_of, opening_of}
use Rattle.shop_keep.specs.Kept.{KeptTo, Withheld}
use Rattle.shop_keep.specs.Sessions.{GrewTo, IsKept, KeptFrom, status_of}
use Rattle.shop_keep.specs.Workers.{IsKeptFirst, kept_seat, kept_standing}
use Rattle.shop_keep.proofs.Grown.{step_grows}

pub standing_first : (session : Session) (first : List Entry) (worker : WorkerState SoloValue) (clock : Option (List ℕ)) (told : Option (List Answer)) → IsKeptFirst session first worker
    → standing seat_of worker clock told ≡ kept_standing session first clock told
standing_first session first worker clock told is =
    ap (λ c. record { caller = c; progress = worker.progress; kept = worker.kept; seat = seat_of worker.store; clock = clock; told = told }) is.caller
    ∙ ap (λ p. record { caller = first_caller session; progress = p; kept = worker.kept; seat = seat_of worker.store; clock = clock; told = told }) is.progress
    ∙ ap (λ k. record { caller = first_caller session; progress = at_first; kept = k; seat = seat_of worker.store; clock = clock; told = told }) is.kept
    ∙ ap (λ s. record { caller = first_caller session; progress = at_first; kept = []; seat = s; clock = clock; told = told }) is.seat

-- steps of the only caller add what they made to the log

opening_by : (form : Form) (from to : Standing) (step : Step) (asks : Result Request Refusal) → IsStepFor form from step to asks → to.seat.opening ≡ from.seat.opening
opening_by form from to step (Ok request) is = is.decided.stays.follows.opening
opening_by form from to step (Err refusal) is = ap (λ (s : Standing). s.seat.opening) is.stands

steps_opening : (answers : ℕ) (from to : Standing) (steps : List Step) → AreSteps answers from steps to → to.seat.opening ≡ from.seat.opening
steps_opening answers from to [] same = ap (λ (s : Standing). s.seat.opening) same
steps_opening answers from to (step ∷ steps) (next, is, are) = steps_opening (answers + 1) next to steps are ∙ opening_by _ from next step (asked step.message) is

steps_grew : (first answers : ℕ) (from to : Standing) (steps : List Step) → AreSteps answers from steps to → IsAlone first from → to.seat.seen ≡ from.seat.seen ++ flat_map (λ s. s.made) steps
steps_grew first answers from to [] same alone = ap (λ (s : Standing). s.seat.seen) same ∙ sym (append-nil from.seat.seen)
steps_grew first answers from to (step ∷ steps) (next, is, are) alone =
    let more : List Entry = flat_map (λ (s : Step). s.made) steps in
    steps_grew first (answers + 1) next to steps are (alone_next first _ from next step (asked step.message) is alone)
    ∙ ap (λ (l : List Entry). l ++ more) (step_grows _ from next step (asked step.message) is (is_told first from alone))
    ∙ append_assoc from.seat.seen step.made more

steps_alone : (first answers : ℕ) (from to : Standing) (steps : List Step) → AreSteps answers from steps to → IsAlone first from → IsAlone first to
steps_alone first answers from to [] same alone = subst (IsAlone first) (sym same) alone
steps_alone first answers from to (step ∷ steps) (next, is, are) alone =
    steps_alone first (answers + 1) next to steps are (alone_next first _ from next step (asked step.message) is alone)

-- a connection over the log that the file had
module _ (session : Session) (named : Option (List ℕ)) (was now : DiskState) (first : List Entry) (after : Standing) (old new : Run) (points : List Point)
    (has : ForSome named (HasEntries (head_of session) first)) (legal : IsLog (opening_of session) first)
    (run : is_some was.told ≡ true → journal.Standing was (run_from was.moment (head_of session) first)) (tells : is_some now.told ≡ is_some was.told)
    (clock : after.clock ≡ new.outside.clock) (told : after.told ≡ new.outside.told) (failed : RoseBy old.outside.failures (failures points) new.outside.failures) (kept : old.outside.failures ≤ new.outside.failures)
    (lawful : IsLawful after.seat.opening after.seat.seen) (fresh : All (IsFreshIn after.seat.seen) points) where
  abbrev before : Standing
  before = kept_standing session first old.outside.clock old.outside.told

  alone_first : IsAlone (last_stamp first) before
  unfolding kept_seat
  alone_first = record { stamp = last_stamp first; latest = refl; since = omega arith; within = omega arith }

  seen_first : before.seat.seen ≡ first
  unfolding kept_seat
  seen_first = refl

  lawful_by : after.seat.opening ≡ before.seat.opening → IsLawful (opening_of session).tables after.seat.seen
  unfolding kept_seat
  lawful_by same = subst (λ (t : Tables). IsLawful t after.seat.seen) same lawful

  kept_by : (end : KeptEnd) (grown made : List Entry) → after.seat.seen ≡ before.seat.seen ++ grown → GrewTo end before after old.streams new.streams points grown now (run_from was.moment (head_of session) first)
      → All IsQuick points → after.seat.opening ≡ before.seat.opening → after.seat.seen ≡ before.seat.seen ++ made → map (λ e. e.stamp) made ≡ map (max (last_stamp first)) (moments_of points)
      → KeptFrom session named now old new end
  kept_by end grown made log grew alone opening all stamps = record {
    first = first;
    has = has;
    legal = legal;
    start = was.moment;
    points = points;
    after = after;
    grown = grown;
    log = log ∙ ap (λ (l : List Entry). l ++ grown) seen_first;
    grew = grew;
    clock = clock;
    told = told;
    failed = failed;
    kept = kept;
    alone = alone;
    lawful = lawful_by opening;
    fresh = fresh;
    stamps = ap (map (λ (e : Entry). e.stamp)) (append_cancel_left before.seat.seen grown made (sym log ∙ all)) ∙ stamps;
  }

  served_from : (how : Ended) → Served before after old.streams new.streams how points → KeepsLog was now before.seat.seen after.seat.seen → KeptFrom session named now old new (kept_end.Ended how)
  served_from how served keeps =
      kept_by (kept_end.Ended how) keeps.entries (flat_map (λ (s : Step). s.made) served.steps) keeps.grew
      (inl (served, λ known. keeps.kept (run_from was.moment (head_of session) first) (run (sym tells ∙ known))))
      (all_at_once (last_stamp first) before after old.streams new.streams how points served alone_first)
      (opening_same (last_stamp first) before after old.streams new.streams how points served alone_first)
      (log_made (last_stamp first) before after old.streams new.streams how points served alone_first)
      (stamps_are (last_stamp first) before after old.streams new.streams how points served alone_first)

  withheld_from : (end : KeptEnd) (w : Withheld before after old.streams new.streams points)
      → GrewTo end before after old.streams new.streams points (w.entries ++ w.entry ∷ []) now (run_from was.moment (head_of session) first) → KeptFrom session named now old new end
  withheld_from end w grew =
      let steps : List Step = w.so_far.steps ++ w.step ∷ [] in
      let more : OneMore before after old.streams w.rest points new.streams.left w.so_far.steps w.message w.step
      = one_more before w.mid after old.streams (record { left = w.left; held = new.streams.held }) w.unread w.rest w.before points w.message _ new.streams.left w.step w.so_far refl w.gives w.adds in
      let mid_alone : IsAlone (last_stamp first) w.mid = steps_alone (last_stamp first) 0 before w.mid w.so_far.steps w.so_far.run alone_first in
      let log : after.seat.seen ≡ before.seat.seen ++ (w.entries ++ w.entry ∷ []) =
      step_grows _ w.mid after w.step (asked w.step.message) w.adds.is (is_told (last_stamp first) w.mid mid_alone)
      ∙ ap (λ (l : List Entry). l ++ w.step.made) w.grew
      ∙ append_assoc before.seat.seen w.entries w.step.made
      ∙ ap (λ (l : List Entry). before.seat.seen ++ (w.entries ++ l)) w.made in
      kept_by end (w.entries ++ w.entry ∷ []) (flat_map (λ (s : Step). s.made) steps) log grew
      (subst (All IsQuick) (sym more.all) (steps_once (last_stamp first) 0 before after steps more.run alone_first))
      (steps_opening 0 before after steps more.run)
      (steps_grew (last_stamp first) 0 before after steps more.run alone_first)
      (stamps_made (last_stamp first) 0 before after steps more.run alone_first ∙ ap (λ (l : List Point). map (max (last_stamp first)) (moments_of l)) (sym more.all))

  kept_from : (end : KeptEnd) → KeptTo before after old.streams new.streams was now points end → KeptFrom session named now old new end
  kept_from (kept_end.Ended how) (inl (served, keeps)) = served_from how served keeps
  kept_from (kept_end.Ended how) (inr (memory, (w, each))) =
      withheld_from (kept_end.Ended how) w
      (inr (memory, (record { withheld = w; last = refl }, λ known. each (run_from was.moment (head_of session) first) (run (sym tells ∙ known)))))
  kept_from kept_end.DiskFault (w, begins) =
      withheld_from kept_end.DiskFault w
      (record { withheld = w; last = refl }, λ known. begins (run_from was.moment (head_of session) first) (run (sym tells ∙ known)))

  pub session_by_end : (start : Standing) → start ≡ before → (end : KeptEnd) → KeptTo start after old.streams new.streams was now points end
      → (end ≡ kept_end.DiskFault → Rose was.faults now.faults) → (end ≡ kept_end.Ended ended.ReadFault → Rose old.reads new.reads) → (end ≡ kept_end.Ended ended.WriteFault → Rose old.writes new.writes)
      → IsKept session named was now old new (status_of end)
  session_by_end start is end to disk read write =
      by_end end (kept_from end (subst (λ (s : Standing). KeptTo s after old.streams new.streams was now points end) is to)) disk read write
    where
      by_end : (end : KeptEnd) → KeptFrom session named now old new end
          → (end ≡ kept_end.DiskFault → Rose was.faults now.faults) → (end ≡ kept_end.Ended ended.ReadFault → Rose old.reads new.reads) → (end ≡ kept_end.Ended ended.WriteFault → Rose old.writes new.writes)
          → IsKept session named was now old new (status_of end)
      by_end (kept_end.Ended ended.Closed) from disk read write = inl from
      by_end (kept_end.Ended ended.Asked) from disk read write = inr from
      by_end (kept_end.Ended ended.Cut) from disk read write = inl from
      by_end (kept_end.Ended (ended.Refused number)) from disk read write = inr (inl (number, from))
      by_end (kept_end.Ended ended.Spent) from disk read write = inr (inr from)
      by_end (kept_end.Ended ended.ReadFault) from disk read write = (read refl, from)
      by_end (kept_end.Ended ended.WriteFault) from disk read write = (write refl, from)
      by_end (kept_end.Ended ended.Memory) from disk read write = inr from
      by_end kept_end.DiskFault from disk read write = (disk refl, inr from)
