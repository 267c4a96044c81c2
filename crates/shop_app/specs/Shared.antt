-- What comes of a run over threads that tells lines.
use Rattle.std.specs.Prelude.{◌≡◌, ◌⊎◌, ⊤, ℕ, List, Option, Result, Ok, Err}
use Rattle.std.specs.Io.KnownBytes.{Appends}
use Rattle.shop_edges.specs.declared.sink.Sink.{Ghosts}
use Rattle.shop_edges.specs.Causes.{Rose}
use Rattle.shop_edges.specs.Starts.{Spawning}
use Rattle.shop_edges.specs.Streams.{AppendsFront}
use Rattle.shop_places.specs.Counts.{counted}
use Rattle.shop_app.specs.declared.status.Status.{Status}
use Rattle.shop_app.specs.declared.status.Status.TheVariants as status

-- what a run over threads is run on: what the sink holds, how often it failed, and the spawner's counts
pub record Shared : Type 0 where
  pub held : Option (List ℕ)
  pub writes : ℕ
  pub spawning : Spawning

abbrev pub shared : {K : Type 0} → Ghosts K → K → Spawning → Shared
shared meaning sink spawner = record { held = meaning.held sink; writes = meaning.faults sink; spawning = spawner }

-- why there are no lines; of a network fault this is known
abbrev pub IsUntold : Type 0 → Spawning → Spawning → Status → Type 0
IsUntold Unreached old new status.NetworkFault = Unreached
IsUntold Unreached old new status.WorkerFault = Rose old.faults new.faults
IsUntold Unreached old new status.Memory = ⊤
IsUntold Unreached old new _ = ⊥

-- the lines tell this, and so many jobs were started; or why there are none
abbrev pub Tells : (List ℕ → Type 0) → ℕ → Type 0 → Spawning → Spawning → Result (List ℕ) Status → Type 0
Tells To jobs Unreached old new (Ok lines) = To lines × (new.starts ≡ counted jobs old.starts)
Tells To jobs Unreached old new (Err why) = IsUntold Unreached old new why

-- lines were printed or, where the sink failed, a front of them; where there are none, nothing was
abbrev pub Prints : Result (List ℕ) Status → Option (List ℕ) → Option (List ℕ) → ℕ → ℕ → Status → Type 0
Prints (Ok lines) held held' writes writes' status.Done = Appends held held' lines
Prints (Ok lines) held held' writes writes' status.WriteFault = AppendsFront held held' lines × Rose writes writes'
Prints (Ok lines) held held' writes writes' _ = ⊥
Prints (Err why) held held' writes writes' outcome = (outcome ≡ why) × (held' ≡ held)

-- what the status says of such a run; unless there are lines, nothing is written
abbrev pub Comes : (List ℕ → Type 0) → ℕ → Type 0 → Shared → Shared → Status → Type 0
Comes To jobs Unreached old new status.Done = (lines : List ℕ) × To lines × (new.spawning.starts ≡ counted jobs old.spawning.starts)
    × Appends old.held new.held lines
Comes To jobs Unreached old new status.WriteFault = (lines : List ℕ) × To lines × (new.spawning.starts ≡ counted jobs old.spawning.starts)
    × AppendsFront old.held new.held lines × Rose old.writes new.writes
Comes To jobs Unreached old new status.NetworkFault = Unreached × (new.held ≡ old.held)
Comes To jobs Unreached old new status.WorkerFault = Rose old.spawning.faults new.spawning.faults × (new.held ≡ old.held)
Comes To jobs Unreached old new status.Memory = new.held ≡ old.held
Comes To jobs Unreached old new _ = ⊥

-- a run of several callers: all was served, or memory ran out
abbrev pub IsDone : Status → Type 0
IsDone outcome = (outcome ≡ status.Done) ⊎ (outcome ≡ status.Memory)
