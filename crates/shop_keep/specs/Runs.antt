-- What a whole run with files does, by its words and its status.
use Rattle.std.specs.Option.{ForSome}
use Rattle.std.specs.Prelude.{◌≡◌, ◌≢◌, ◌⊎◌, ℕ, List, Option, is_some, true}
use Rattle.shop_edges.specs.declared.sink.Sink as sink
use Rattle.shop_disk.specs.DiskStates.{DiskState}
use Rattle.shop_history.specs.declared.acts.Entry.{Entry}
use Rattle.shop_book.specs.Solos.{SoloValue}
use Rattle.shop_replay.specs.Replays.{IsLog}
use Rattle.shop_journal.specs.Runs.{Standing, run_from}
use Rattle.shop_engine.specs.Workers.{WorkerState}
use Rattle.shop_words.specs.declared.command.Session.{Session}
use Rattle.shop_words.specs.declared.kept.KeptCommand.{KeptCommand}
use Rattle.shop_words.specs.declared.kept.KeptCommand.TheVariants as command
use Rattle.shop_words.specs.declared.kept.Migrate.{Migrate}
use Rattle.shop_words.specs.Kept.{IsKeptCommand}
use Rattle.shop_app.specs.declared.status.Status.{Status}
use Rattle.shop_app.specs.declared.status.Status.TheVariants as status
use Rattle.shop_app.specs.Outside.{Meanings, run_of}
use Rattle.shop_keep.specs.Files.{HasEntries, head_of, opening_of}
use Rattle.shop_keep.specs.Moves.{Migrates}
use Rattle.shop_keep.specs.Sessions.{IsKept}
use Rattle.shop_keep.specs.Workers.{IsKeptFirst}

-- the meanings of a disk: what is known of it, and of the file of a name
abbrev pub Disks : Type 0 → Type 1
Disks D = (D → DiskState) × (D → List ℕ → Option (List ℕ))

-- a connection over a disk, whose file was so
abbrev pub KeepsBy : {D S K C G : Type 0} → (D → DiskState) → Meanings S K C G → Session → Option (List ℕ)
    → D × (S × K × C × G) → D × (S × K × C × G) → Status → Type 0
KeepsBy state by session named (disk, old) (disk', new) outcome =
    IsKept session named (state disk) (state disk') (run_of by old) (run_of by new) outcome

-- a journal of these entries is open, and a worker is there that has served no request
pub record IsReady (session : Session) (named : Option (List ℕ)) (now : DiskState) (first : List Entry) (worker : WorkerState SoloValue) : Type 0 where
  pub has : ForSome named (HasEntries (head_of session) first)
  pub legal : IsLog (opening_of session) first
  pub is_first : IsKeptFirst session first worker
  pub run : is_some now.told ≡ true → Standing now (run_from now.moment (head_of session) first)

-- a journal of the first format was carried over
abbrev pub MovesBy : {D K : Type 0} → Disks D → sink.Ghosts K → Migrate → D × D × K → D × D × K → Status → Type 0
MovesBy (state, named) k asked (old, new, sink) (old', new', sink') outcome = Migrates (record {
  old = named old asked.from;
  new = named new asked.to;
  old_was = state old;
  old_now = state old';
  new_was = state new;
  new_now = state new';
  held = k.held sink;
  held_now = k.held sink';
  writes = k.faults sink;
  writes_now = k.faults sink';
}) outcome

-- what came of a command
abbrev pub ObeysKept : {D S K C G : Type 0} → Disks D → Meanings S K C G → KeptCommand → (D × D) × (S × K × C × G) → (D × D) × (S × K × C × G) → Status → Type 0
ObeysKept (state, named) by (command.Keep asked) ((disk, other), old) ((disk', other'), new) outcome =
    (other' ≡ other) × KeepsBy state by asked.shop (named disk asked.journal) (disk, old) (disk', new) outcome
ObeysKept disks (s, k, c, g) (command.Migrate asked) ((disk, other), (source, sink, clock, gateway)) ((disk', other'), (source', sink', clock', gateway')) outcome =
    ((source' ≡ source) × (clock' ≡ clock) × (gateway' ≡ gateway)) × MovesBy disks k asked (disk, other, sink) (disk', other', sink') outcome

-- where the words are good, they give a command, and this is what came of it; or memory ran out before they were read
abbrev pub RunsKept : {D S K C G : Type 0} → Disks D → Meanings S K C G → List (List ℕ) → (D × D) × (S × K × C × G) → (D × D) × (S × K × C × G) → Status → Type 0
RunsKept disks by words old new outcome = outcome ≢ status.BadWords
    → ((outcome ≡ status.Memory) × (new ≡ old)) ⊎ ((given : KeptCommand) × IsKeptCommand words given × ObeysKept disks by given old new outcome)
