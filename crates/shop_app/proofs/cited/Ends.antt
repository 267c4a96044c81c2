-- What is printed is what lines tell, and so the status.
use Rattle.std.proofs.Common.{◌≡◌, inl, inr, ℕ, ◌≤◌, List, Option, Result, Ok, Err, refl, sym, ap, ◌∙◌, subst, arith}
use Rattle.std.specs.Prelude.{◌≢◌}
use Rattle.shop_edges.specs.Causes.{Rose}
use Rattle.shop_edges.specs.Starts.{Spawning}
use Rattle.shop_edges.specs.declared.sink.Sink as sink
use Rattle.shop_places.specs.declared.serving.Stop.{Stop}
use Rattle.shop_places.specs.declared.serving.Stop.TheVariants.{NoLink, NotStarted, Memory}
use Rattle.shop_places.specs.Listening.{Listening}
use Rattle.shop_tasks.specs.Serves.{Meanings}
use Rattle.shop_words.specs.declared.command.Command.{Command}
use Rattle.shop_words.specs.declared.command.Command.TheVariants as command
use Rattle.shop_app.specs.declared.status.Status.{Status}
use Rattle.shop_app.specs.declared.status.Status.TheVariants as status
use Rattle.shop_app.specs.Racing.{RacedTo}
use Rattle.shop_app.specs.Serving.{ServedLinks, status_of}
use Rattle.shop_app.specs.Shared.{Comes, IsDone, IsUntold, Prints, Shared, Tells, shared}
use Rattle.shop_app.specs.SharedRuns.{IsSharedRun, Obeys, TellsBy, TellsOf}

-- what came of lines that were printed
module _ (To : List ℕ → Type 0) (jobs : ℕ) (Unreached : Type 0) (old new : Spawning) (held held' : Option (List ℕ)) (writes writes' : ℕ) where
  abbrev before : Shared
  before = record { held = held; writes = writes; spawning = old }

  abbrev after : Shared
  after = record { held = held'; writes = writes'; spawning = new }

  pub comes : (lines : Result (List ℕ) Status) (outcome : Status) → Tells To jobs Unreached old new lines → Prints lines held held' writes writes' outcome → Comes To jobs Unreached before after outcome
  comes (Ok lines) status.Done told printed = (lines, told.0, told.1, printed)
  comes (Ok lines) status.WriteFault told printed = (lines, told.0, told.1, printed.0, printed.1)
  comes (Ok lines) status.Unserved told printed = absurd printed
  comes (Ok lines) status.BadWords told printed = absurd printed
  comes (Ok lines) status.ReadFault told printed = absurd printed
  comes (Ok lines) status.NetworkFault told printed = absurd printed
  comes (Ok lines) status.WorkerFault told printed = absurd printed
  comes (Ok lines) status.Memory told printed = absurd printed
  comes (Ok lines) status.DiskFault told printed = absurd printed
  comes (Ok lines) status.NotThisJournal told printed = absurd printed
  comes (Err status.Done) outcome told printed = absurd told
  comes (Err status.WriteFault) outcome told printed = absurd told
  comes (Err status.Unserved) outcome told printed = absurd told
  comes (Err status.BadWords) outcome told printed = absurd told
  comes (Err status.ReadFault) outcome told printed = absurd told
  comes (Err status.DiskFault) outcome told printed = absurd told
  comes (Err status.NotThisJournal) outcome told printed = absurd told
  comes (Err status.NetworkFault) outcome told printed = subst (Comes To jobs Unreached before after) (sym printed.0) (told, printed.1)
  comes (Err status.WorkerFault) outcome told printed = subst (Comes To jobs Unreached before after) (sym printed.0) (told, printed.1)
  comes (Err status.Memory) outcome told printed = subst (Comes To jobs Unreached before after) (sym printed.0) printed.1

  -- where nothing failed, all was served, or memory ran out
  pub comes_done : (outcome : Status) → outcome ≢ status.BadWords → Comes To jobs Unreached before after outcome → (Rose old.faults new.faults → ⊥) → (Unreached → ⊥) → (Rose writes writes' → ⊥) → IsDone outcome
  comes_done status.Done good did no_start no_link no_write = inl refl
  comes_done status.Unserved good did no_start no_link no_write = absurd did
  comes_done status.BadWords good did no_start no_link no_write = absurd (good refl)
  comes_done status.ReadFault good did no_start no_link no_write = absurd did
  comes_done status.WriteFault good did no_start no_link no_write = absurd (no_write did.4)
  comes_done status.NetworkFault good did no_start no_link no_write = absurd (no_link did.0)
  comes_done status.WorkerFault good did no_start no_link no_write = absurd (no_start did.0)
  comes_done status.Memory good did no_start no_link no_write = inr refl
  comes_done status.DiskFault good did no_start no_link no_write = absurd did
  comes_done status.NotThisJournal good did no_start no_link no_write = absurd did

-- why no more links were served
pub stopped : (stop : Stop) (before mid after : ℕ) (old new : Spawning) → before ≤ mid → (stop ≡ NoLink → Rose mid after) → (stop ≡ NotStarted → Rose old.faults new.faults) → IsUntold (Rose before after) old new (status_of stop)
stopped NoLink before mid after old new later no_link not_started = omega (arith, later, no_link refl)
stopped NotStarted before mid after old new later no_link not_started = not_started refl
stopped Memory before mid after old new later no_link not_started = tt

-- exactly where there are no lines for the words' sake, the status says so
pub bad_lines : (lines : Result (List ℕ) Status) (held held' : Option (List ℕ)) (writes writes' : ℕ) (outcome : Status) → Prints lines held held' writes writes' outcome → outcome ≡ status.BadWords → lines ≡ Err status.BadWords
bad_lines (Ok lines) held held' writes writes' status.Done printed bad = absurd cc
bad_lines (Ok lines) held held' writes writes' status.WriteFault printed bad = absurd cc
bad_lines (Ok lines) held held' writes writes' status.Unserved printed bad = absurd printed
bad_lines (Ok lines) held held' writes writes' status.BadWords printed bad = absurd printed
bad_lines (Ok lines) held held' writes writes' status.ReadFault printed bad = absurd printed
bad_lines (Ok lines) held held' writes writes' status.NetworkFault printed bad = absurd printed
bad_lines (Ok lines) held held' writes writes' status.WorkerFault printed bad = absurd printed
bad_lines (Ok lines) held held' writes writes' status.Memory printed bad = absurd printed
bad_lines (Ok lines) held held' writes writes' status.DiskFault printed bad = absurd printed
bad_lines (Ok lines) held held' writes writes' status.NotThisJournal printed bad = absurd printed
bad_lines (Err why) held held' writes writes' outcome printed bad = ap (λ (w : Status). Err w) (sym printed.0 ∙ bad)

pub bad_status : (lines : Result (List ℕ) Status) (held held' : Option (List ℕ)) (writes writes' : ℕ) (outcome : Status) → Prints lines held held' writes writes' outcome → lines ≡ Err status.BadWords → outcome ≡ status.BadWords
bad_status (Ok lines) held held' writes writes' outcome printed bad = absurd cc
bad_status (Err why) held held' writes writes' outcome printed bad = printed.0 ∙ (let same : why ≡ status.BadWords = cc in same)

module _ {K C I O : Type 0} (k : sink.Ghosts K) (by : Meanings C I O) (clock : Option (List ℕ)) (before after : Listening I O) (sink sink' : K) (old new : Spawning)
    (lines : Result (List ℕ) Status) (outcome : Status) (printed : Prints lines (k.held sink) (k.held sink') (k.faults sink) (k.faults sink') outcome) where
  obeys : (given : Command) → TellsOf by clock before after given old new lines → Obeys by clock before after given (shared k sink old) (shared k sink' new) outcome
  obeys (command.Race race) told =
      (comes (RacedTo race clock) race.workers ⊥ old new (k.held sink) (k.held sink') (k.faults sink) (k.faults sink') lines outcome told.0 printed, told.1)
  obeys (command.Serve serve) told =
      comes (ServedLinks by serve clock before after) serve.connections (Rose before.faults after.faults) old new (k.held sink) (k.held sink') (k.faults sink) (k.faults sink') lines outcome told printed
  obeys (command.Session session) told = absurd told
  obeys (command.Drive drive) told = absurd told
  obeys command.Gateway told = absurd told

  pub run_told : (words : List (List ℕ)) → ((why : Status) → lines ≡ Err why → sink' ≡ sink) → TellsBy by clock before after words old new lines
      → IsSharedRun by clock before after words (shared k sink old) (shared k sink' new) outcome
  run_told words untouched (inl (none, same, left)) =
      let unprinted : Prints (Err status.Memory) (k.held sink) (k.held sink') (k.faults sink) (k.faults sink') outcome =
      subst (λ (r : Result (List ℕ) Status). Prints r (k.held sink) (k.held sink') (k.faults sink) (k.faults sink') outcome) none printed in
      inl (unprinted.0, (λ i. shared k (untouched status.Memory none i) (same i)), left)
  run_told words untouched (inr (given, is, told)) = inr (given, is, obeys given told)

module _ {C I O : Type 0} (by : Meanings C I O) (clock : Option (List ℕ)) (before after : Listening I O) (old new : Shared) (outcome : Status) (good : outcome ≢ status.BadWords)
    (no_start : Rose old.spawning.faults new.spawning.faults → ⊥) (no_link : Rose before.faults after.faults → ⊥) (no_write : Rose old.writes new.writes → ⊥) where
  done : (given : Command) → Obeys by clock before after given old new outcome → IsDone outcome
  done (command.Race race) did =
      comes_done (RacedTo race clock) race.workers ⊥ old.spawning new.spawning old.held new.held old.writes new.writes outcome good did.0 no_start (λ none. none) no_write
  done (command.Serve serve) did =
      comes_done (ServedLinks by serve clock before after) serve.connections (Rose before.faults after.faults) old.spawning new.spawning old.held new.held old.writes new.writes outcome good did no_start no_link no_write
  done (command.Session session) did = absurd did
  done (command.Drive drive) did = absurd did
  done command.Gateway did = absurd did

  pub all_done : (words : List (List ℕ)) → IsSharedRun by clock before after words old new outcome → IsDone outcome
  all_done words (inl none) = inr none.0
  all_done words (inr (given, is, did)) = done given did
