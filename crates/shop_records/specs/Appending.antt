-- What an append gives.
use Rattle.std.specs.Prelude.{ℕ, List, [], ◌∷◌, ◌++◌}
use Rattle.shop_disk.specs.DiskStates.{DiskState}
use Rattle.shop_records.specs.declared.records.Appended.{Appended}
use Rattle.shop_records.specs.declared.records.Appended.TheVariants as appended
use Rattle.shop_records.specs.Standing.{Stands}
use Rattle.shop_records.specs.Runs.{Run, Standing, Leaves, with_begun, with_done}

-- the disk that was handed back
abbrev pub disk_after : {D : Type 0} → Appended D → D
disk_after (appended.Done records) = records
disk_after (appended.Failed disk) = disk
disk_after (appended.Memory records) = records

module _ {D : Type 0} (state : D → DiskState) where
  -- the record is behind the others, on the disk; where memory ran out, there is none more
  abbrev pub AppendsAs : List ℕ → List (List ℕ) → List ℕ → Appended D → Type 0
  AppendsAs header payloads payload (appended.Done records) = Stands (state records) header (payloads ++ payload ∷ [])
  AppendsAs header payloads payload (appended.Failed disk) = Unit {0}
  AppendsAs header payloads payload (appended.Memory records) = Stands (state records) header payloads

  -- the run goes on
  abbrev pub RunsAs : Run → List ℕ → Appended D → Type 0
  RunsAs run payload (appended.Done records) = Standing (state records) (with_done payload (state records).moment run)
  RunsAs run payload (appended.Failed disk) = Leaves (state disk) (with_begun payload run)
  RunsAs run payload (appended.Memory records) = Standing (state records) run
