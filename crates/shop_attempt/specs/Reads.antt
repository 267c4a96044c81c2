-- What an attempt read, and how it stands to the log.
use Rattle.std.specs.Prelude.{◌≡◌, ◌==◌, ◌≤◌, List, [], ◌∷◌, length, Option, Some, None, if◌then◌else◌}
use Rattle.shop_log.specs.Histories as histories
use Rattle.shop_model.specs.declared.tables.Tables.{Tables}
use Rattle.shop_model.specs.rows.Sound.{Sound, Room}
use Rattle.shop_history.specs.declared.acts.Entry.{Entry}
use Rattle.shop_history.specs.declared.keys.Key.{Key}
use Rattle.shop_history.specs.Keys.{row_of}
use Rattle.shop_history.specs.Logs.{history, version_of, SameCatalogue}
use Rattle.shop_attempt.specs.declared.attempts.Conflict.{Conflict}
use Rattle.shop_attempt.specs.declared.attempts.ReadOf.{ReadOf}
use Rattle.shop_attempt.specs.Seats.{Seat, IsReadAt}

-- a read is true of a log: the key showed this row after as many entries as its version says, and that was its version there
abbrev pub IsTrue : Tables → List Entry → ReadOf → Type 0
IsTrue t log read = histories.IsTrueOf history t log read.key read.row read.version

abbrev pub AreTrue : Tables → List Entry → List ReadOf → Type 0
AreTrue t log [] = Unit {0}
AreTrue t log (read ∷ reads) = IsTrue t log read × AreTrue t log reads

-- tables show what was read
abbrev pub Shows : Tables → List ReadOf → Type 0
Shows t [] = Unit {0}
Shows t (read ∷ reads) = (row_of t read.key ≡ read.row) × Shows t reads

-- sound tables with room for an entry, with the catalogue of the opening ones, that show what was read
pub record Agrees (opening t : Tables) (reads : List ReadOf) : Type 0 where
  pub sound : Sound t
  pub room_for : Room t 1
  pub catalogue : SameCatalogue opening t
  pub shows : Shows t reads

-- the first read whose version is no more the key's
abbrev pub first_stale : Tables → List Entry → List ReadOf → Option Conflict
first_stale t log [] = None
first_stale t log (read ∷ reads) =
    if version_of t log read.key == read.version
    then first_stale t log reads
    else Some (record { key = read.key; read = read.version; found = version_of t log read.key })

-- a read of a key in the log seen
pub record IsReadOf (seat : Seat) (key : Key) (read : ReadOf) : Type 0 where
  pub key_is : read.key ≡ key
  pub is : IsReadAt seat key (read.row, read.version)

-- a read of this call: true of the log seen, and, where its version is no newer than the log that the call began with, the key's version there
pub record IsReadSince (old new : Seat) (read : ReadOf) : Type 0 where
  pub holds : IsTrue new.opening new.seen read
  pub since : read.version ≤ length old.seen → version_of new.opening old.seen read.key ≡ read.version

-- reads of this call
abbrev pub AreReadSince : Seat → Seat → List ReadOf → Type 0
AreReadSince old new [] = Unit {0}
AreReadSince old new (read ∷ reads) = IsReadSince old new read × AreReadSince old new reads
