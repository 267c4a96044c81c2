-- What each call of a disk answers, and why it fails.
use Rattle.std.specs.Prelude.{◌≡◌, ℕ, ◌+◌, ◌<◌, ◌≤◌, List, length, slice_index, Option, Some, None}
use Rattle.shop_edges.specs.Causes.{Rose}
use Rattle.shop_disk.specs.declared.disk.Opened.{Opened}
use Rattle.shop_disk.specs.declared.disk.Opened.TheVariants as opened
use Rattle.shop_disk.specs.declared.disk.Length.{Length}
use Rattle.shop_disk.specs.declared.disk.Length.TheVariants as size
use Rattle.shop_disk.specs.declared.disk.Got.{Got}
use Rattle.shop_disk.specs.declared.disk.Got.TheVariants as got
use Rattle.shop_disk.specs.declared.disk.Wrote.{Wrote}
use Rattle.shop_disk.specs.declared.disk.Wrote.TheVariants as wrote
use Rattle.shop_disk.specs.Images.{Holds, Torn}
use Rattle.shop_disk.specs.DiskStates.{Only}

-- behind an open the named file is read
abbrev pub OpensAs : Option (List ℕ) → Option (List ℕ) → Opened → Type 0
OpensAs named told opened.Open = told ≡ named
OpensAs named told opened.Failed = Unit {0}

-- the length of the file
abbrev pub Measures : Option (List ℕ) → Length → Type 0
Measures None answer = Unit {0}
Measures (Some file) (size.Bytes n) = n ≡ length file
Measures (Some file) size.Failed = Unit {0}

-- a read gives at least one byte, and no more than there is room for
abbrev pub GotFits : Got → List ℕ → Type 0
GotFits (got.Bytes n) into = (0 < n) × (n ≤ length into)
GotFits got.End into = Unit {0}
GotFits got.Failed into = Unit {0}

-- the file's bytes from this place on, as many as were read; its end exactly at or past the length
abbrev pub ReadsAt : Option (List ℕ) → ℕ → Got → List ℕ → Type 0
ReadsAt None at answer into = Unit {0}
ReadsAt (Some file) at (got.Bytes n) into = (at + n ≤ length file) × ((i : ℕ) → i < n → slice_index into i ≡ slice_index file (at + i))
ReadsAt (Some file) at got.End into = length file ≤ at
ReadsAt (Some file) at got.Failed into = Unit {0}

-- a place of a write: not past the end
abbrev pub IsWithin : Option (List ℕ) → ℕ → Type 0
IsWithin None at = Unit {0}
IsWithin (Some file) at = at ≤ length file

-- the file has the bytes where the write was done, and any in their place where it failed
abbrev pub WritesAt : Option (List ℕ) → Option (List ℕ) → ℕ → List ℕ → Wrote → Type 0
WritesAt None None at bytes answer = Unit {0}
WritesAt None (Some new) at bytes answer = ⊥
WritesAt (Some old) None at bytes answer = ⊥
WritesAt (Some old) (Some new) at bytes wrote.Done = Torn at (length bytes) old new × Holds new at bytes
WritesAt (Some old) (Some new) at bytes wrote.Failed = Torn at (length bytes) old new

-- after a sync that is done a crash leaves what a read gives
abbrev pub SyncsAs : Option (List ℕ) → (List ℕ → Type 0) → Wrote → Type 0
SyncsAs None images answer = Unit {0}
SyncsAs (Some file) images wrote.Done = Only file images
SyncsAs (Some file) images wrote.Failed = Unit {0}

-- the count of faults never falls, and a call fails only where it rose
pub record OpenCause (before now : ℕ) (answer : Opened) : Type 0 where
  pub later : before ≤ now
  pub failed : answer ≡ opened.Failed → Rose before now

pub record LengthCause (before now : ℕ) (answer : Length) : Type 0 where
  pub later : before ≤ now
  pub failed : answer ≡ size.Failed → Rose before now

pub record ReadCause (before now : ℕ) (answer : Got) : Type 0 where
  pub later : before ≤ now
  pub failed : answer ≡ got.Failed → Rose before now

pub record WriteCause (before now : ℕ) (answer : Wrote) : Type 0 where
  pub later : before ≤ now
  pub failed : answer ≡ wrote.Failed → Rose before now
