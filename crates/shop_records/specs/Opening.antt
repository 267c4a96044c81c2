-- What opening a file finds.
use Rattle.std.specs.Prelude.{◌≡◌, ℕ, List, is_some, true}
use Rattle.std.specs.Option.{ForSome}
use Rattle.shop_disk.specs.DiskStates.{DiskState}
use Rattle.shop_records.specs.declared.opening.Found.{Found}
use Rattle.shop_records.specs.declared.opening.Found.TheVariants as found
use Rattle.shop_records.specs.Records.{Keeps, IsKept}
use Rattle.shop_records.specs.Scanning.{IsNone}
use Rattle.shop_records.specs.Standing.{Stands, IsDurable}
use Rattle.shop_records.specs.Runs.{Standing, run_from}

-- the disk that was handed back
abbrev pub disk_found : {D : Type 0} → Found D → D
disk_found (found.Open records contents) = records
disk_found (found.NotAJournal disk at) = disk
disk_found (found.Failed disk) = disk
disk_found (found.Memory disk) = disk

-- a file was opened, and these are its bytes
pub record IsOpen (now : DiskState) (bytes : List ℕ) : Type 0 where
  pub whole : ForSome now.told (λ file. bytes ≡ file)
  pub durable : IsDurable now
  pub kept : IsKept bytes
  -- what is read of them stands there, and a run begins
  pub stands : (header : List ℕ) (payloads : List (List ℕ)) → Keeps header payloads bytes → Stands now header payloads
  pub run : (header : List ℕ) (payloads : List (List ℕ)) → Keeps header payloads bytes → is_some now.told ≡ true
      → Standing now (run_from now.moment header payloads)

abbrev pub FoundAs : {D : Type 0} → (D → DiskState) → Found D → Type 0
FoundAs state (found.Open records contents) = IsOpen (state records) contents
FoundAs state (found.NotAJournal disk at) = ForSome (state disk).told (IsNone at)
FoundAs state (found.Failed disk) = Unit {0}
FoundAs state (found.Memory disk) = Unit {0}

-- just these were found, or nothing could be read
abbrev pub FindsJust : {D : Type 0} → List ℕ → List (List ℕ) → Found D → Type 0
FindsJust header payloads (found.Open records contents) = Keeps header payloads contents
FindsJust header payloads (found.NotAJournal disk at) = ⊥
FindsJust header payloads (found.Failed disk) = Unit {0}
FindsJust header payloads (found.Memory disk) = Unit {0}
