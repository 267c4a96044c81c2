-- What an append of an entry gives.
use Rattle.std.specs.Prelude.{List, [], ◌∷◌, ◌++◌}
use Rattle.shop_disk.specs.DiskStates.{DiskState}
use Rattle.shop_history.specs.declared.acts.Entry.{Entry}
use Rattle.shop_records.specs.Standing as records
use Rattle.shop_journal.specs.declared.appending.Appended.{Appended}
use Rattle.shop_journal.specs.declared.appending.Appended.TheVariants as appended
use Rattle.shop_journal.specs.declared.headers.Head.{Head}
use Rattle.shop_journal.specs.declared.headers.Format.TheVariants.{Second}
use Rattle.shop_journal.specs.Headers.{header_of}
use Rattle.shop_journal.specs.Journals.{payloads_of}
use Rattle.shop_journal.specs.Runs.{Run, Standing, Leaves, with_begun, with_done}

-- where the disk tells its file, that is a journal of these entries, all of it on the disk
abbrev pub Stands : DiskState → Head → List Entry → Type 0
Stands disk head entries = records.Stands disk (header_of Second head) (payloads_of Second entries)

-- the disk that was handed back
abbrev pub disk_after : {D : Type 0} → Appended D → D
disk_after (appended.Done journal) = journal
disk_after (appended.Failed disk) = disk
disk_after (appended.Memory journal) = journal

module _ {D : Type 0} (state : D → DiskState) where
  -- the entry is behind the others, on the disk; where memory ran out, there is none more
  abbrev pub AppendsAs : Head → List Entry → Entry → Appended D → Type 0
  AppendsAs head entries entry (appended.Done journal) = Stands (state journal) head (entries ++ entry ∷ [])
  AppendsAs head entries entry (appended.Failed disk) = Unit {0}
  AppendsAs head entries entry (appended.Memory journal) = Stands (state journal) head entries

  -- the run goes on
  abbrev pub RunsAs : Run → Entry → Appended D → Type 0
  RunsAs run entry (appended.Done journal) = Standing (state journal) (with_done entry (state journal).moment run)
  RunsAs run entry (appended.Failed disk) = Leaves (state disk) (with_begun entry run)
  RunsAs run entry (appended.Memory journal) = Standing (state journal) run
