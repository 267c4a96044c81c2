-- What a run of `poll` does, by its words and its status.
use Rattle.std.specs.Prelude.{◌≡◌, ◌≢◌, ◌⊎◌, ℕ, List, Option, Some, Result, Ok, Err, IfSome, IsSomeAnd}
use Rattle.shop_edges.specs.Causes.{Rose}
use Rattle.shop_edges.specs.Starts.{Spawning}
use Rattle.shop_edges.specs.declared.sink.Sink as sink
use Rattle.shop_edges.specs.declared.spawner.Way.TheVariants.{Threads}
use Rattle.shop_lanes.specs.declared.listener.PolledListener as listener
use Rattle.shop_lanes.specs.declared.pool.LanesEnd.{LanesEnd}
use Rattle.shop_lanes.specs.declared.pool.LanesEnd.TheVariants.{All, ListenerFault, Memory}
use Rattle.shop_places.specs.Listening.{Listening, seen_by}
use Rattle.shop_tasks.specs.Serves.{Meanings}
use Rattle.shop_tasks.specs.StationValues.{StationValue}
use Rattle.shop_turn.specs.Desks.{DeskValue}
use Rattle.shop_words.specs.declared.command.Serve.{Serve}
use Rattle.shop_words.specs.declared.polled.Poll.{Poll}
use Rattle.shop_words.specs.Polled.{IsPoll}
use Rattle.shop_app.specs.declared.status.Status.{Status}
use Rattle.shop_app.specs.declared.status.Status.TheVariants as status
use Rattle.shop_app.specs.Serving.{ServedLinks, TellsOfBook}
use Rattle.shop_app.specs.Shared.{Comes, IsDone, Shared, Tells, shared}
use Rattle.shop_poll.specs.Servings.{PolledMeanings, serves_by}

-- what `serve` would be asked for: a worker for each lane, with a gateway of its own
abbrev pub serve_of : Poll → Serve
serve_of poll = record { shop = poll.shop; port = poll.port; workers = poll.lanes; connections = poll.connections; gateway = 0 }

-- a runner in the place of a spawner: it starts no jobs
abbrev pub runs : ℕ → Spawning
runs faults = record { way = Threads; calls = 0; starts = 0; faults = faults }

-- by how lanes ended: what the lines tell that their shop came to, or why there are none
abbrev pub TellsOfEnd : {C I O : Type 0} → ℕ → DeskValue → List (StationValue C I O) → LanesEnd → Result (List ℕ) Status → Type 0
TellsOfEnd lanes own stations All (Ok lines) = TellsOfBook lanes own stations lines
TellsOfEnd lanes own stations All (Err why) = why ≡ status.Memory
TellsOfEnd lanes own stations ListenerFault lines = lines ≡ Err status.NetworkFault
TellsOfEnd lanes own stations Memory lines = lines ≡ Err status.Memory

-- what is seen of a listener that is polled, and dials nobody
abbrev pub seen : {L I O : Type 0} → listener.Ghosts L I O → L → Listening I O
seen by = seen_by by.links by.faults by.accepted (λ _. 0)

module _ {L C I O : Type 0} (l : listener.Ghosts L I O) (by : Meanings C I O) (clock : Option (List ℕ)) (before : L) (after : Option L) (poll : Poll) where
  -- the connections were served as `serve` serves them, and the listener was handed back
  abbrev pub ServedBack : List ℕ → Type 0
  ServedBack lines = IsSomeAnd after (λ back. ServedLinks by (serve_of poll) clock (seen l before) (seen l back) lines)

  -- the listener failed, and was handed back
  abbrev pub FailedBack : Type 0
  FailedBack = IsSomeAnd after (λ back. Rose (l.faults before) (l.faults back))

  -- what the lines tell, or why there are none: the listener failed, the runner did, or memory ran out
  abbrev pub TellsBack : ℕ → ℕ → Result (List ℕ) Status → Type 0
  TellsBack old new lines = Tells ServedBack 0 FailedBack (runs old) (runs new) lines

  -- what the status of a run says
  abbrev pub ComesBack : Shared → Shared → Status → Type 0
  ComesBack old new outcome = Comes ServedBack 0 FailedBack old new outcome

-- of a runner's count of faults, a listener, and the two sides of a link and a clock
abbrev pub RunMeanings : Type 0 → Type 0 → Type 0 → Type 0 → Type 0 → Type 1
RunMeanings U L I O C = (U → ℕ) × listener.Ghosts L I O × PolledMeanings I O C

-- what the lines tell, or why there are none, by these meanings
abbrev pub TellsPolled : {U L I O C : Type 0} → RunMeanings U L I O C → Poll → C → U × L → U × Option L → Result (List ℕ) Status → Type 0
TellsPolled (fails, l, by) poll clock (runner, before) (runner', after) lines =
    TellsBack l (serves_by by) (by.2.readings clock) before after poll (fails runner) (fails runner') lines

-- the words give the command that was done, or memory ran out before they were read
abbrev pub TellsRun : {U L I O C : Type 0} → RunMeanings U L I O C → List (List ℕ) → C → U × L → U × Option L → Result (List ℕ) Status → Type 0
TellsRun by words clock (runner, before) (runner', after) lines = lines ≢ Err status.BadWords
    → ((lines ≡ Err status.Memory) × (runner' ≡ runner) × (after ≡ Some before))
    ⊎ ((poll : Poll) × IsPoll words poll × TellsPolled by poll clock (runner, before) (runner', after) lines)

-- so the run, with a sink: what `poll` did, by its status, or memory ran out before the words were read
abbrev pub RunsPolled : {K U L I O C : Type 0} → sink.Ghosts K × RunMeanings U L I O C → List (List ℕ) → C → K × U × L → K × U × Option L → Status → Type 0
RunsPolled (k, by) words clock (sink, runner, before) (sink', runner', after) outcome = outcome ≢ status.BadWords
    → ((outcome ≡ status.Memory) × (sink' ≡ sink) × (runner' ≡ runner) × (after ≡ Some before))
    ⊎ ((poll : Poll) × IsPoll words poll
    × ComesBack by.1 (serves_by by.2) (by.2.2.readings clock) before after poll (shared k sink (runs (by.0 runner))) (shared k sink' (runs (by.0 runner'))) outcome)

-- where no write and no link failed, and the runner did not, all was served, or memory ran out
abbrev pub Completes : {K U L : Type 0} → (K → ℕ) × (U → ℕ) × (L → ℕ) → K × U × L → K × U × Option L → Status → Type 0
Completes (writes, fails, links) (sink, runner, before) (sink', runner', after) outcome = outcome ≢ status.BadWords
    → ¬ (Rose (writes sink) (writes sink')) → ¬ (Rose (fails runner) (fails runner')) → IfSome after (λ back. ¬ (Rose (links before) (links back))) → IsDone outcome
