-- What is known of a disk at one moment, and what a crash may leave of its file.
use Rattle.std.specs.Prelude.{◌≡◌, ◌⊎◌, ℕ, ◌≤◌, Option, Some, List}

pub record DiskState : Type 1 where
  -- what a read gives of the file, where that is known
  pub told : Option (List ℕ)
  -- an image: what a crash now may leave
  pub may_leave : List ℕ → Type 0
  -- the moment, as a number that doesn't fall
  pub moment : ℕ
  -- what a crash at some moment since that one may have left, within a call or between two
  pub left_since : ℕ → List ℕ → Type 0
  -- how many calls have failed, up to 2^64 - 1
  pub faults : ℕ

-- a crash leaves this and nothing else
abbrev pub Only : List ℕ → (List ℕ → Type 0) → Type 0
Only file images = (image : List ℕ) → images image → image ≡ file

-- a crash may leave nothing more than before
abbrev pub NoMore : DiskState → DiskState → Type 0
NoMore old new = (image : List ℕ) → new.may_leave image → old.may_leave image

-- each image now is an image before, changed so
abbrev pub Follows : (List ℕ → List ℕ → Type 0) → DiskState → DiskState → Type 0
Follows step old new = (image : List ℕ) → new.may_leave image → (from : List ℕ) × old.may_leave from × step from image

-- time goes on: a crash since a moment may have left what it might have left before, or may leave now
pub record Elapses (old new : DiskState) : Type 0 where
  pub later : old.moment ≤ new.moment
  pub nothing_else : (at : ℕ) (image : List ℕ) → at ≤ old.moment → new.left_since at image → old.left_since at image ⊎ new.may_leave image
  pub keeps : (at : ℕ) (image : List ℕ) → at ≤ old.moment → old.left_since at image → new.left_since at image

-- a crash at any moment from old to new leaves a file that has P
pub record LeavesOnly (old new : DiskState) (P : List ℕ → Type 0) : Type 0 where
  pub later : old.moment ≤ new.moment
  pub each : (image : List ℕ) → new.left_since old.moment image → P image
  -- for a run that began earlier
  pub before : (at : ℕ) (image : List ℕ) → at ≤ old.moment → new.left_since at image → old.left_since at image ⊎ P image

-- what holds of the states of every disk
pub record IsDisk (disk : DiskState) : Type 0 where
  -- the file as it reads is one of the images
  pub reads_as_image : (file : List ℕ) → disk.told ≡ Some file → disk.may_leave file
  -- this moment is one of those since an earlier one
  pub counts_now : (at : ℕ) (image : List ℕ) → at ≤ disk.moment → disk.may_leave image → disk.left_since at image
  -- what a crash since a later moment may have left, one since an earlier moment may have left
  pub narrows : (at later : ℕ) (image : List ℕ) → at ≤ later → disk.left_since later image → disk.left_since at image
  -- since this moment there is no other
  pub only_now : (image : List ℕ) → disk.left_since disk.moment image → disk.may_leave image
