-- A disk in memory: its list of calls, and what these tell.
use Rattle.std.specs.Prelude.{◌≡◌, ◌⊎◌, ℕ, ◌≤◌, ◌==◌, Bool, true, false, if◌then◌else◌, List, [], ◌∷◌, ◌++◌, length, take, Some}
use Rattle.std.specs.List.{list_any}
use Rattle.shop_edges.specs.Causes.{count_up}
use Rattle.shop_disk.specs.declared.disk.Opened.{Opened}
use Rattle.shop_disk.specs.declared.disk.Opened.TheVariants as opened
use Rattle.shop_disk.specs.declared.disk.Length.{Length}
use Rattle.shop_disk.specs.declared.disk.Length.TheVariants as size
use Rattle.shop_disk.specs.declared.disk.Got.{Got}
use Rattle.shop_disk.specs.declared.disk.Got.TheVariants as got
use Rattle.shop_disk.specs.declared.disk.Wrote.{Wrote}
use Rattle.shop_disk.specs.declared.disk.Wrote.TheVariants as wrote
use Rattle.shop_disk.specs.declared.memory_disk.Call.{Call}
use Rattle.shop_disk.specs.DiskStates.{DiskState}
use Rattle.shop_disk.specs.MemoryFiles.{FileState, synced_file, after, after_all, MayLeave}

-- the file's first bytes, the calls so far, the numbers of the calls that fail, counted from 1, and how many failed
pub record MemoryState : Type 0 where
  pub first : List ℕ
  pub calls : List Call
  pub fails : List ℕ
  pub faults : ℕ

abbrev pub file_after : List ℕ → List Call → FileState
file_after first calls = after_all (synced_file first) calls

-- what the calls made of the file
abbrev pub file_of : MemoryState → FileState
file_of disk = file_after disk.first disk.calls

-- what a crash behind so many of the calls, or more, may have left
pub record LeftSince (first : List ℕ) (calls : List Call) (moment : ℕ) (image : List ℕ) : Type 0 where
  pub count : ℕ
  pub since : moment ≤ count
  pub until : count ≤ length calls
  pub left : MayLeave (file_after first (take count calls)) image

-- its moment is the number of calls
abbrev pub disk_of : MemoryState → DiskState
disk_of disk =
    record {
      told = Some (file_of disk).bytes;
      may_leave = MayLeave (file_of disk);
      moment = length disk.calls;
      left_since = LeftSince disk.first disk.calls;
      faults = disk.faults;
    }

-- before the first call
abbrev pub fresh : List ℕ → List ℕ → MemoryState
fresh first fails = record { first = first; calls = []; fails = fails; faults = 0 }

-- the next call is one of those that fail
abbrev pub fails_next : MemoryState → Bool
fails_next disk = list_any (λ n. n == count_up (length disk.calls)) disk.fails

-- behind a call that is listed, and one that found no memory
abbrev pub listed : Call → Bool → MemoryState → MemoryState
listed call fails disk =
    record disk { calls = disk.calls ++ call ∷ []; faults = if fails then count_up disk.faults else disk.faults }

abbrev pub refused : MemoryState → MemoryState
refused disk = record disk { faults = count_up disk.faults }

-- a call is listed, and fails exactly where its number says so, or it finds no memory
abbrev pub Asks : Call → Bool → MemoryState → MemoryState → Type 0
Asks call fails old new =
    ((fails ≡ fails_next old) × (new ≡ listed call fails old)) ⊎ ((fails ≡ true) × (new ≡ refused old))

-- a call that leaves the file
abbrev pub IsLook : Call → Type 0
IsLook call = (file : FileState) → after file call ≡ file

abbrev pub open_fails : Opened → Bool
open_fails opened.Open = false
open_fails opened.Failed = true

abbrev pub length_fails : Length → Bool
length_fails (size.Bytes n) = false
length_fails size.Failed = true

abbrev pub read_fails : Got → Bool
read_fails (got.Bytes n) = false
read_fails got.End = false
read_fails got.Failed = true

abbrev pub write_fails : Wrote → Bool
write_fails wrote.Done = false
write_fails wrote.Failed = true
