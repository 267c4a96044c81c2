-- What the calls of a disk in memory made of its file, and what a crash may leave of that.
use Rattle.std.specs.Prelude.{◌≡◌, ◌⊎◌, ℕ, ◌+◌, ◌-◌, List, [], ◌∷◌, ◌++◌, length, take, drop}
use Rattle.shop_disk.specs.declared.disk.Wrote.TheVariants as wrote
use Rattle.shop_disk.specs.declared.memory_disk.Call.{Call}
use Rattle.shop_disk.specs.declared.memory_disk.Call.TheVariants as call
use Rattle.shop_disk.specs.Images.{Torn}

-- a file with bytes over it from a place on
abbrev pub overwritten : List ℕ → ℕ → List ℕ → List ℕ
overwritten file at bytes = take at file ++ bytes ++ drop (at + length bytes) file

-- bytes that were written from a place on, or may have been where the write failed
pub record Written : Type 0 where
  pub at : ℕ
  pub bytes : List ℕ

-- what is read, what was read at the last sync, and what was written since, the oldest first
pub record FileState : Type 0 where
  pub bytes : List ℕ
  pub synced : List ℕ
  pub written : List Written

-- a file that is on the disk
abbrev pub synced_file : List ℕ → FileState
synced_file bytes = record { bytes = bytes; synced = bytes; written = [] }

abbrev pub with_written : FileState → List ℕ → Written → FileState
with_written file bytes more = record { bytes = bytes; synced = file.synced; written = file.written ++ more ∷ [] }

-- behind a call
abbrev pub after : FileState → Call → FileState
after file call.Open = file
after file call.Length = file
after file (call.Read at) = file
after file (call.Write at bytes wrote.Done) = with_written file (overwritten file.bytes at bytes) (record { at = at; bytes = bytes })
after file (call.Write at bytes wrote.Failed) = with_written file file.bytes (record { at = at; bytes = bytes })
after file (call.Sync wrote.Done) = synced_file file.bytes
after file (call.Sync wrote.Failed) = file

abbrev pub after_all : FileState → List Call → FileState
after_all file [] = file
after_all file (call ∷ calls) = after_all (after file call) calls

-- each range that was written holds any bytes
abbrev pub TornBy : List Written → List ℕ → List ℕ → Type 0
TornBy [] file image = image ≡ file
TornBy (first ∷ later) file image = (torn : List ℕ) × Torn first.at (length first.bytes) file torn × TornBy later torn image

-- an image: what a crash may leave
abbrev pub MayLeave : FileState → List ℕ → Type 0
MayLeave file image = (image ≡ file.bytes) ⊎ TornBy file.written file.synced image

-- the first bytes that were written, so many, laid over a file in the order of writing
abbrev pub laid : ℕ → List Written → List ℕ → List ℕ
laid keep [] file = file
laid keep (first ∷ later) file = laid (keep - length first.bytes) later (overwritten file first.at (take keep first.bytes))

-- how many bytes were written
abbrev pub size_of : List Written → ℕ
size_of [] = 0
size_of (first ∷ later) = length first.bytes + size_of later

-- the image of a crash that kept so many of the bytes written since the last sync
abbrev pub crashed : ℕ → FileState → List ℕ
crashed keep file = laid keep file.written file.synced

-- a replay has come to this file, with its image, and may lay so many bytes more
pub record Replays (keep : ℕ) (file : FileState) (bytes image : List ℕ) (left : ℕ) : Type 0 where
  pub bytes_are : bytes ≡ file.bytes
  pub image_is : image ≡ crashed keep file
  pub left_is : left ≡ keep - size_of file.written
