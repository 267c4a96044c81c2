-- What `migrate` does, by its status.
use Rattle.std.specs.Option.{ForSome}
use Rattle.std.specs.Prelude.{◌≡◌, ◌≢◌, ◌⊎◌, ℕ, List, [], Option, codes}
use Rattle.std.specs.Io.KnownBytes.{Appends}
use Rattle.shop_edges.specs.Causes.{Rose}
use Rattle.shop_edges.specs.Streams.{AppendsFront}
use Rattle.shop_disk.specs.DiskStates.{DiskState}
use Rattle.shop_journal.specs.declared.headers.Format.TheVariants.{First}
use Rattle.shop_journal.specs.declared.migrating.Migrated.{Migrated}
use Rattle.shop_journal.specs.declared.migrating.Migrated.TheVariants as migrated
use Rattle.shop_journal.specs.Journals.{IsNone}
use Rattle.shop_journal.specs.Migrating.{IsMoved}
use Rattle.shop_app.specs.declared.status.Status.{Status}
use Rattle.shop_app.specs.declared.status.Status.TheVariants as status
use Rattle.shop_app.specs.Summaries.{line}

-- the line that tells how many entries were carried over
abbrev pub entries_line : ℕ → List ℕ
entries_line count = line (codes "entries") count

-- it was printed, or the sink failed, or memory ran out before
abbrev pub TellsAs : ℕ → Option (List ℕ) → Option (List ℕ) → ℕ → ℕ → Status → Type 0
TellsAs count held held' writes writes' status.Done = Appends held held' (entries_line count)
TellsAs count held held' writes writes' status.WriteFault = AppendsFront held held' (entries_line count) × Rose writes writes'
TellsAs count held held' writes writes' status.Memory = held' ≡ held
TellsAs count held held' writes writes' _ = ⊥

-- the status of a migration
abbrev pub EndsAs : Migrated → Option (List ℕ) → Option (List ℕ) → ℕ → ℕ → Status → Type 0
EndsAs (migrated.Done count) held held' writes writes' outcome = TellsAs count held held' writes writes' outcome
EndsAs (migrated.NotAJournal at) held held' writes writes' outcome = (outcome ≡ status.NotThisJournal) × (held' ≡ held)
EndsAs migrated.NotEmpty held held' writes writes' outcome = (outcome ≡ status.NotThisJournal) × (held' ≡ held)
EndsAs migrated.Failed held held' writes writes' outcome = (outcome ≡ status.DiskFault) × (held' ≡ held)
EndsAs migrated.Memory held held' writes writes' outcome = (outcome ≡ status.Memory) × (held' ≡ held)

-- the two files as they were, their disks before and now, what the sink holds, and how often it failed
pub record Move : Type 1 where
  pub old : Option (List ℕ)
  pub new : Option (List ℕ)
  pub old_was : DiskState
  pub old_now : DiskState
  pub new_was : DiskState
  pub new_now : DiskState
  pub held : Option (List ℕ)
  pub held_now : Option (List ℕ)
  pub writes : ℕ
  pub writes_now : ℕ

-- the old file is as it was
abbrev pub KeepsOld : Move → Type 0
KeepsOld move = move.old_now.told ≡ move.old

-- nothing was printed
abbrev pub IsSilent : Move → Type 0
IsSilent move = move.held_now ≡ move.held

-- the old file is no journal of the first format, as this place tells, or the new one has bytes
abbrev pub IsRefused : Move → Type 0
IsRefused move = ((at : ℕ) × ForSome move.old (IsNone First at)) ⊎ ForSome move.new (λ file. file ≢ [])

abbrev pub Migrates : Move → Status → Type 0
Migrates move status.Done =
    KeepsOld move × ((count : ℕ) × ForSome move.old (IsMoved count move.new move.new_now) × Appends move.held move.held_now (entries_line count))
Migrates move status.WriteFault =
    KeepsOld move × ((count : ℕ) × ForSome move.old (IsMoved count move.new move.new_now)
    × AppendsFront move.held move.held_now (entries_line count) × Rose move.writes move.writes_now)
Migrates move status.NotThisJournal = KeepsOld move × (move.new_now.told ≡ move.new) × IsSilent move × IsRefused move
Migrates move status.DiskFault = IsSilent move × (Rose move.old_was.faults move.old_now.faults ⊎ Rose move.new_was.faults move.new_now.faults)
Migrates move status.Memory = KeepsOld move × IsSilent move
Migrates move _ = ⊥
