-- What appends, one after another, make of a run of a journal, and what the note of a change makes of it.
use Rattle.std.specs.Prelude.{◌≡◌, ℕ, ◌≤◌, List, [], ◌∷◌, ◌++◌, length}
use Rattle.shop_disk.specs.DiskStates.{DiskState}
use Rattle.shop_history.specs.declared.acts.Entry.{Entry}
use Rattle.shop_journal.specs.declared.appending.Appended.{Appended}
use Rattle.shop_journal.specs.declared.appending.Appended.TheVariants as appended
use Rattle.shop_journal.specs.Runs.{Run, Standing, Leaves, with_begun}

-- these appends more were begun, and acknowledged at these moments
abbrev pub with_each : List Entry → List ℕ → Run → Run
with_each entries moments run = record run { begun = run.begun ++ entries; moments = run.moments ++ moments }

-- every run goes on by these entries, each of them acknowledged
abbrev pub AppendsEach : DiskState → DiskState → List Entry → Type 0
AppendsEach old now entries = (run : Run) → Standing old run → (moments : List ℕ) × Standing now (with_each entries moments run)

-- the same, and one append more was begun behind them, whose entry a crash may leave or not
abbrev pub BeginsLast : DiskState → DiskState → List Entry → Entry → Type 0
BeginsLast old now entries entry =
    (run : Run) → Standing old run → (moments : List ℕ) × Leaves now (with_begun entry (with_each entries moments run))

-- a log grew by entries, which were appended one after another
pub record KeepsLog (old now : DiskState) (log log' : List Entry) : Type 0 where
  pub entries : List Entry
  pub grew : log' ≡ log ++ entries
  pub kept : AppendsEach old now entries

-- behind so many entries one more was made at most
pub record IsGrown (before : ℕ) (log log' made : List Entry) : Type 0 where
  pub count : before ≡ length log
  pub grew : log' ≡ log ++ made
  pub few : length made ≤ 1

module _ {D : Type 0} (state : D → DiskState) where
  -- what was made is on the disk; or one entry was, and its append failed; or memory ran out before that was begun
  abbrev pub NotedAs : D → List Entry → Appended D → Type 0
  NotedAs old made (appended.Done journal) = AppendsEach (state old) (state journal) made
  NotedAs old made (appended.Failed disk) = (entry : Entry) × (made ≡ entry ∷ []) × BeginsLast (state old) (state disk) [] entry
  NotedAs old made (appended.Memory journal) = (entry : Entry) × (made ≡ entry ∷ []) × (journal ≡ old)
