-- What making a file of records gives.
use Rattle.std.specs.Prelude.{◌≡◌, ◌≢◌, ℕ, List, [], ◌∷◌, ◌++◌, Option, is_some, true}
use Rattle.std.specs.Option.{ForSome}
use Rattle.shop_disk.specs.DiskStates.{DiskState}
use Rattle.shop_records.specs.declared.opening.Created.{Created}
use Rattle.shop_records.specs.declared.opening.Created.TheVariants as created
use Rattle.shop_records.specs.Standing.{Stands}
use Rattle.shop_records.specs.Runs.{Standing, run_from}

-- the disk that was handed back
abbrev pub disk_made : {D : Type 0} → Created D → D
disk_made (created.Done records) = records
disk_made (created.NotEmpty disk) = disk
disk_made (created.Failed disk) = disk
disk_made (created.Memory disk) = disk

-- a file was made
pub record IsMade (before : Option (List ℕ)) (header : List ℕ) (now : DiskState) : Type 0 where
  -- it was empty
  pub empty : ForSome before (λ file. file ≡ [])
  -- the header and a gate that is shut are all that it has
  pub made : ForSome now.told (λ file. file ≡ header ++ 0 ∷ [])
  pub stands : Stands now header []
  -- a run begins
  pub run : is_some now.told ≡ true → Standing now (run_from now.moment header [])

-- a file that had bytes is left as it was, and so is one where memory ran out
abbrev pub CreatedAs : {D : Type 0} → (D → DiskState) → Option (List ℕ) → List ℕ → Created D → Type 0
CreatedAs state before header (created.Done records) = IsMade before header (state records)
CreatedAs state before header (created.NotEmpty disk) = ((state disk).told ≡ before) × ForSome before (λ file. file ≢ [])
CreatedAs state before header (created.Failed disk) = Unit {0}
CreatedAs state before header (created.Memory disk) = (state disk).told ≡ before
