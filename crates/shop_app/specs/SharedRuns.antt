-- What a run of several callers does, by its words and its status.
use Rattle.std.specs.Prelude.{◌≡◌, ◌≢◌, ◌⊎◌, ℕ, List, Option, Result, Err}
use Rattle.shop_edges.specs.declared.listener.Listener as listener
use Rattle.shop_edges.specs.declared.sink.Sink as sink
use Rattle.shop_edges.specs.Causes.{Rose}
use Rattle.shop_edges.specs.Starts.{Spawning}
use Rattle.shop_places.specs.Listening.{Listening, listening}
use Rattle.shop_tasks.specs.Serves.{Meanings}
use Rattle.shop_words.specs.declared.command.Command.{Command}
use Rattle.shop_words.specs.declared.command.Command.TheVariants as command
use Rattle.shop_words.specs.Commands.{IsCommand}
use Rattle.shop_app.specs.declared.status.Status.{Status}
use Rattle.shop_app.specs.declared.status.Status.TheVariants as status
use Rattle.shop_app.specs.Racing.{IsRaced, RacedTo}
use Rattle.shop_app.specs.Serving.{IsServed, TellsServed}
use Rattle.shop_app.specs.Shared.{IsDone, Shared, Tells, shared}

module _ {C I O : Type 0} (by : Meanings C I O) (clock : Option (List ℕ)) (before after : Listening I O) where
  -- what a command's lines tell, or why there are none; a race leaves the listener alone
  abbrev pub TellsOf : Command → Spawning → Spawning → Result (List ℕ) Status → Type 0
  TellsOf (command.Race race) old new lines = Tells (RacedTo race clock) race.workers ⊥ old new lines × (after ≡ before)
  TellsOf (command.Serve serve) old new lines = TellsServed by serve clock before after old new lines
  TellsOf _ old new lines = ⊥

  -- the words give the command of several callers that was done, or memory ran out before they were read
  abbrev pub TellsBy : List (List ℕ) → Spawning → Spawning → Result (List ℕ) Status → Type 0
  TellsBy words old new lines = ((lines ≡ Err status.Memory) × (new ≡ old) × (after ≡ before)) ⊎ ((given : Command) × IsCommand words given × TellsOf given old new lines)

  -- what came of a command of several callers; a race leaves the listener alone
  abbrev pub Obeys : Command → Shared → Shared → Status → Type 0
  Obeys (command.Race race) old new outcome = IsRaced race clock old new outcome × (after ≡ before)
  Obeys (command.Serve serve) old new outcome = IsServed by serve clock before after old new outcome
  Obeys _ old new outcome = ⊥

  -- the words give a command of several callers, and this is what came of it, or memory ran out before they were read
  abbrev pub IsSharedRun : List (List ℕ) → Shared → Shared → Status → Type 0
  IsSharedRun words old new outcome =
      ((outcome ≡ status.Memory) × (new ≡ old) × (after ≡ before)) ⊎ ((given : Command) × IsCommand words given × Obeys given old new outcome)

-- the meanings of a sink, a listener and a clock, and of the two sides of a link
abbrev pub SharedMeanings : Type 0 → Type 0 → Type 0 → Type 0 → Type 0 → Type 1
SharedMeanings K L C I O = sink.Ghosts K × listener.Ghosts L I O × Meanings C I O

-- the same by the meanings of what is outside, where the words were good
abbrev pub RunsShared : {K L C I O : Type 0} → SharedMeanings K L C I O → List (List ℕ) → C → K × Spawning × L → K × Spawning × L → Status → Type 0
RunsShared (k, l, by) words clock (sink, spawner, listener) (sink', spawner', listener') outcome = outcome ≢ status.BadWords
    → IsSharedRun by (by.0.readings clock) (listening l listener) (listening l listener') words (shared k sink spawner) (shared k sink' spawner') outcome

-- so the lines
abbrev pub TellsShared : {L C I O : Type 0} → listener.Ghosts L I O × Meanings C I O → List (List ℕ) → C → Spawning × L → Spawning × L → Result (List ℕ) Status → Type 0
TellsShared (l, by) words clock (spawner, listener) (spawner', listener') lines = lines ≢ Err status.BadWords
    → TellsBy by (by.0.readings clock) (listening l listener) (listening l listener') words spawner spawner' lines

-- where no start, no link and no write failed, all was served, or memory ran out
abbrev pub CompletesBy : {K L I O : Type 0} → sink.Ghosts K × listener.Ghosts L I O → K × Spawning × L → K × Spawning × L → Status → Type 0
CompletesBy (k, l) (sink, spawner, listener) (sink', spawner', listener') outcome = outcome ≢ status.BadWords
    → ¬ (Rose spawner.faults spawner'.faults) → ¬ (Rose (l.faults listener) (l.faults listener')) → ¬ (Rose (k.faults sink) (k.faults sink')) → IsDone outcome
