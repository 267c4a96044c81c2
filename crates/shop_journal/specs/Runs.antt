-- A run of appends of entries, and what a crash may leave of it.
use Rattle.std.specs.Prelude.{◌≡◌, ℕ, ◌≤◌, List, [], ◌∷◌, ◌++◌, length, take}
use Rattle.std.specs.List.{AllByRecursion}
use Rattle.shop_history.specs.declared.acts.Entry.{Entry}
use Rattle.shop_disk.specs.DiskStates.{DiskState}
use Rattle.shop_records.specs.Runs as records
use Rattle.shop_journal.specs.declared.headers.Head.{Head}
use Rattle.shop_journal.specs.declared.headers.Format.TheVariants.{Second}
use Rattle.shop_journal.specs.Headers.{IsHead, header_of}
use Rattle.shop_journal.specs.Journals.{payloads_of}
use Rattle.shop_journal.specs.Payloads.{IsEntry}

-- the moment at which it began, the shop, and the entries that stood there then; those whose append was begun since, and the
-- moments at which the first of these were acknowledged
pub record Run : Type 0 where
  pub start : ℕ
  pub head : Head
  pub first : List Entry
  pub begun : List Entry
  pub moments : List ℕ

-- before the first append
abbrev pub run_from : ℕ → Head → List Entry → Run
run_from start head first = record { start = start; head = head; first = first; begun = []; moments = [] }

-- an append more was begun, and was acknowledged at this moment
abbrev pub with_begun : Entry → Run → Run
with_begun entry run = record run { begun = run.begun ++ entry ∷ [] }

abbrev pub with_done : Entry → ℕ → Run → Run
with_done entry moment run = record run { begun = run.begun ++ entry ∷ []; moments = run.moments ++ moment ∷ [] }

-- the run of its records
abbrev pub records_of : Run → records.Run
records_of run = record {
  start = run.start;
  header = header_of Second run.head;
  first = payloads_of Second run.first;
  begun = payloads_of Second run.begun;
  moments = run.moments;
}

-- its entries are such as are kept
pub record IsRun (run : Run) : Type 0 where
  pub head : IsHead run.head
  pub first : AllByRecursion (IsEntry Second) run.first
  pub begun : AllByRecursion (IsEntry Second) run.begun

-- every append that was begun is acknowledged, and its entry stands on a disk that tells
pub record Standing (now : DiskState) (run : Run) : Type 0 where
  pub entries : IsRun run
  pub records_stand : records.Standing now (records_of run)

-- a crash at a moment of the run, or behind it, leaves every entry that was acknowledged by then, and so does the disk that is
-- read without a crash
pub record Leaves (now : DiskState) (run : Run) : Type 0 where
  pub entries : IsRun run
  pub records_left : records.Leaves now (records_of run)

-- what a crash at a moment of the run may have left
pub record MayBeLeft (before : DiskState) (run : Run) (at : ℕ) (image : List ℕ) : Type 0 where
  pub leaves : Leaves before run
  pub since : run.start ≤ at
  pub until : at ≤ before.moment
  pub left : before.left_since at image

-- these are what stood at first, and the first of the entries begun since, at least so many
pub record IsFrontOf (run : Run) (least : ℕ) (head : Head) (entries : List Entry) : Type 0 where
  pub same : head ≡ run.head
  pub count : ℕ
  pub enough : least ≤ count
  pub begun : count ≤ length run.begun
  pub is : entries ≡ run.first ++ take count run.begun
