-- What a replay of entries gives: the book whose log they are, or the first entry with which they are no legal log.
use Rattle.std.specs.Prelude.{◌≡◌, ℕ, ◌+◌, ◌-◌, ◌<◌, ◌≤◌, List, [], ◌∷◌, ◌++◌, length, take, Result, Ok, Err}
use Rattle.shop_model.specs.rows.Limits.{stamp_limit}
use Rattle.shop_history.specs.declared.acts.Entry.{Entry}
use Rattle.shop_history.specs.Logs.{Legal}
use Rattle.shop_book.specs.declared.opening.Opening.{Opening}
use Rattle.shop_book.specs.Books.{BookValue}
use Rattle.shop_replay.specs.declared.replaying.Replayed.{Replayed}
use Rattle.shop_replay.specs.declared.replaying.Replayed.TheVariants as replayed
use Rattle.shop_replay.specs.declared.stops.Stop.{Stop}
use Rattle.shop_replay.specs.declared.stops.Stop.TheVariants as stop

-- the stamp of the last entry, or this one where there is none
abbrev pub last_stamp_or : ℕ → List Entry → ℕ
last_stamp_or stamp [] = stamp
last_stamp_or stamp (entry ∷ log) = last_stamp_or entry.stamp log

abbrev pub last_stamp : List Entry → ℕ
last_stamp log = last_stamp_or 0 log

-- the book of these entries
abbrev pub book_of : Opening → List Entry → BookValue
book_of opening log = record { opening = opening; log = log; latest = last_stamp log }

-- a legal log within the limit
pub record IsLog (opening : Opening) (log : List Entry) : Type 0 where
  pub legal : Legal opening.tables log
  pub short : length log ≤ opening.limit

-- the entries before the one with this number are a legal log within the limit, and with it they are none
pub record IsFirstIllegal (opening : Opening) (entries : List Entry) (number : ℕ) : Type 0 where
  pub some : 0 < number
  pub within : number ≤ length entries
  pub before : IsLog opening (take (number - 1) entries)
  pub with_it : IsLog opening (take number entries) → ⊥

abbrev pub ReplayedAs : Opening → List Entry → Replayed → Type 0
ReplayedAs opening entries (replayed.Book book) = IsLog opening entries × (book ≡ book_of opening entries)
ReplayedAs opening entries (replayed.Illegal number) = IsFirstIllegal opening entries number
ReplayedAs opening entries replayed.Memory = Unit {0}

-- one entry behind the log of a book

-- the stamp of an entry is none before the latest nor above its bound
pub record IsInTime (latest : ℕ) (entry : Entry) : Type 0 where
  pub later : latest ≤ entry.stamp
  pub bound : entry.stamp ≤ stamp_limit

-- the entry is the last of a legal log
pub record IsAdded (old new : BookValue) (entry : Entry) : Type 0 where
  pub log : IsLog old.opening (old.log ++ entry ∷ [])
  pub book : new ≡ record { opening = old.opening; log = old.log ++ entry ∷ []; latest = entry.stamp }

abbrev pub AddsAs : BookValue → BookValue → Entry → Result Unit Stop → Type 0
AddsAs old new entry (Ok done) = IsAdded old new entry
AddsAs old new entry (Err stop.Illegal) = IsLog old.opening (old.log ++ entry ∷ []) → ⊥
AddsAs old new entry (Err stop.Memory) = Unit {0}

-- so many entries are a legal log within the limit; where they are all, their book is there, and else one more makes none
pub record AreAdded (opening : Opening) (entries : List Entry) (book : BookValue) (count : ℕ) : Type 0 where
  pub few : count ≤ length entries
  pub log : IsLog opening (take count entries)
  pub all : count ≡ length entries → book ≡ book_of opening entries
  pub stops : count < length entries → IsLog opening (take (count + 1) entries) → ⊥
