-- Records that are on their disk.
use Rattle.std.specs.Prelude.{◌≡◌, ◌⊎◌, ℕ, List, [], ◌∷◌, ◌++◌, length}
use Rattle.std.specs.Option.{ForSome}
use Rattle.shop_disk.specs.DiskStates.{DiskState, Only}
use Rattle.shop_records.specs.Records.{Keeps, front_of}

-- all that is read is on the disk
abbrev pub IsDurable : DiskState → Type 0
IsDurable disk = ForSome disk.told (λ file. Only file disk.may_leave)

-- where the disk tells its file, that keeps these payloads, all of it on the disk
pub record Stands (disk : DiskState) (header : List ℕ) (payloads : List (List ℕ)) : Type 0 where
  pub keeps : ForSome disk.told (Keeps header payloads)
  pub durable : IsDurable disk

-- some payloads stand there, and the gate behind them is at this place
pub record IsSettled (disk : DiskState) (gate : ℕ) : Type 0 where
  pub header : List ℕ
  pub payloads : List (List ℕ)
  pub stands : Stands disk header payloads
  pub place : ForSome disk.told (λ file. gate ≡ length (front_of header payloads))

-- the file keeps the payloads, or one more
abbrev pub KeepsOr : List ℕ → List (List ℕ) → List ℕ → List ℕ → Type 0
KeepsOr header payloads payload file = Keeps header payloads file ⊎ Keeps header (payloads ++ payload ∷ []) file
