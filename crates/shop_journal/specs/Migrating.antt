-- What a migration gives.
use Rattle.std.specs.Prelude.{◌≡◌, ◌≢◌, ℕ, List, [], ◌∷◌, ◌++◌, length, Option}
use Rattle.std.specs.Option.{ForSome}
use Rattle.shop_disk.specs.DiskStates.{DiskState}
use Rattle.shop_history.specs.declared.acts.Entry.{Entry}
use Rattle.shop_records.specs.Standing.{IsDurable}
use Rattle.shop_journal.specs.declared.headers.Format.TheVariants.{First, Second}
use Rattle.shop_journal.specs.declared.headers.Head.{Head}
use Rattle.shop_journal.specs.declared.migrating.Migrated.{Migrated}
use Rattle.shop_journal.specs.declared.migrating.Migrated.TheVariants as migrated
use Rattle.shop_journal.specs.declared.migrating.Old.{Old}
use Rattle.shop_journal.specs.declared.migrating.Old.TheVariants as old
use Rattle.shop_journal.specs.Journals.{IsNone, Keeps, front_of}

-- the disk that was handed back
abbrev pub disk_read : {D : Type 0} → Old D → D
disk_read (old.Log disk log) = disk
disk_read (old.NotAJournal disk at) = disk
disk_read (old.Failed disk) = disk
disk_read (old.Memory disk) = disk

-- what a file of the first format is
abbrev pub ReadsAs : {D : Type 0} → (D → DiskState) → Old D → Type 0
ReadsAs state (old.Log disk log) = ForSome (state disk).told (Keeps First log.head log.entries)
ReadsAs state (old.NotAJournal disk at) = ForSome (state disk).told (IsNone First at)
ReadsAs state (old.Failed disk) = Unit {0}
ReadsAs state (old.Memory disk) = Unit {0}

-- a file that was empty has so many entries in the second format, all of it on the disk
pub record IsWritten (count : ℕ) (before : Option (List ℕ)) (now : DiskState) (head : Head) (entries : List Entry) : Type 0 where
  pub empty : ForSome before (λ file. file ≡ [])
  pub count_is : count ≡ length entries
  pub made : ForSome now.told (λ file. file ≡ front_of Second head entries ++ 0 ∷ [])
  pub durable : IsDurable now

abbrev pub WritesAs : Migrated → Option (List ℕ) → DiskState → Head → List Entry → Type 0
WritesAs (migrated.Done count) before now head entries = IsWritten count before now head entries
WritesAs (migrated.NotAJournal at) before now head entries = ⊥
WritesAs migrated.NotEmpty before now head entries = (now.told ≡ before) × ForSome before (λ file. file ≢ [])
WritesAs migrated.Failed before now head entries = Unit {0}
WritesAs migrated.Memory before now head entries = now.told ≡ before

-- the new file is a journal of the old one's shop and entries, and a crash leaves just that
pub record IsMoved (count : ℕ) (before : Option (List ℕ)) (now : DiskState) (file : List ℕ) : Type 0 where
  pub head : Head
  pub entries : List Entry
  pub old : Keeps First head entries file
  pub written : IsWritten count before now head entries
  pub new : ForSome now.told (Keeps Second head entries)

-- the file is a journal of the first format
pub record IsOld (file : List ℕ) : Type 0 where
  pub head : Head
  pub entries : List Entry
  pub keeps : Keeps First head entries file

-- what was read of the old file, and of the new one before and now
abbrev pub MigratesAs : Migrated → Option (List ℕ) → Option (List ℕ) → DiskState → Type 0
MigratesAs (migrated.Done count) old before now = ForSome old (IsMoved count before now)
MigratesAs (migrated.NotAJournal at) old before now = (now.told ≡ before) × ForSome old (IsNone First at)
MigratesAs migrated.NotEmpty old before now = (now.told ≡ before) × ForSome before (λ file. file ≢ []) × ForSome old IsOld
MigratesAs migrated.Failed old before now = Unit {0}
MigratesAs migrated.Memory old before now = now.told ≡ before
