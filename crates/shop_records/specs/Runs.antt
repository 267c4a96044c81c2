-- A run of appends, from a file that was made or opened until it is opened again, and what a crash may leave of it.
use Rattle.std.specs.Prelude.{◌≡◌, ℕ, ◌≤◌, nat_le, List, [], ◌∷◌, ◌++◌, length, take, count_by, is_some, true}
use Rattle.std.specs.Option.{ForSome}
use Rattle.shop_disk.specs.DiskStates.{DiskState}
use Rattle.shop_records.specs.Records.{Keeps}
use Rattle.shop_records.specs.Standing.{Stands}

-- the moment at which it began, and the payloads that stood there then; those whose append was begun since, and the
-- moments at which the first of these were acknowledged
pub record Run : Type 0 where
  pub start : ℕ
  pub header : List ℕ
  pub first : List (List ℕ)
  pub begun : List (List ℕ)
  pub moments : List ℕ

-- before the first append
abbrev pub run_from : ℕ → List ℕ → List (List ℕ) → Run
run_from start header first = record { start = start; header = header; first = first; begun = []; moments = [] }

-- an append more was begun, and was acknowledged at this moment
abbrev pub with_begun : List ℕ → Run → Run
with_begun payload run = record run { begun = run.begun ++ payload ∷ [] }

abbrev pub with_done : List ℕ → ℕ → Run → Run
with_done payload moment run = record run { begun = run.begun ++ payload ∷ []; moments = run.moments ++ moment ∷ [] }

-- how many were acknowledged by that moment
abbrev pub done_by : ℕ → List ℕ → ℕ
done_by moment moments = count_by (λ m. nat_le m moment) moments

-- the file keeps what stood at first, and the first of the payloads begun since, at least so many
pub record KeepsAtLeast (least : ℕ) (run : Run) (file : List ℕ) : Type 0 where
  pub count : ℕ
  pub enough : least ≤ count
  pub begun : count ≤ length run.begun
  pub keeps : Keeps run.header (run.first ++ take count run.begun) file

-- a crash at a moment of the run, or behind it, leaves every payload that was acknowledged by then, and so does the disk
-- that is read without a crash
pub record Leaves (now : DiskState) (run : Run) : Type 0 where
  pub later : run.start ≤ now.moment
  pub past : done_by now.moment run.moments ≡ length run.moments
  pub crash : (at : ℕ) (image : List ℕ) → run.start ≤ at → at ≤ now.moment → now.left_since at image
      → KeepsAtLeast (done_by at run.moments) run image
  pub read : ForSome now.told (KeepsAtLeast (length run.moments) run)

-- every append that was begun is acknowledged, and its record stands on a disk that tells
pub record Standing (now : DiskState) (run : Run) : Type 0 where
  pub tells : is_some now.told ≡ true
  pub stands : Stands now run.header (run.first ++ run.begun)
  pub done : length run.moments ≡ length run.begun
  pub leaves : Leaves now run
