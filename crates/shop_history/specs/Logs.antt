-- The log of a shop: what its entries make of the opening tables, and what can be read of it.
use Rattle.std.specs.Prelude.{◌≡◌, ℕ, ◌+◌, ◌-◌, ◌≤◌, ◌==◌, List, take, length, filter, All, Option, None, option_map}
use Rattle.shop_log.specs.Histories as histories
use Rattle.shop_log.specs.Histories.{History, state_after}
use Rattle.shop_model.specs.declared.page.Page.{Page}
use Rattle.shop_model.specs.declared.tables.Tables.{Tables}
use Rattle.shop_model.specs.lists.Catalogues.{opened}
use Rattle.shop_model.specs.pages.Show.{check}
use Rattle.shop_model.specs.rows.Limits.{stamp_limit}
use Rattle.shop_model.specs.rows.Lookups.{row_numbered}
use Rattle.shop_model.specs.rows.Sound.{Sound, Room}
use Rattle.shop_history.specs.declared.acts.Entry.{Entry}
use Rattle.shop_history.specs.declared.keys.Key.{Key}
use Rattle.shop_history.specs.declared.keys.Row.{Row}
use Rattle.shop_history.specs.Acts.{play, request_of, IsInForm}
use Rattle.shop_history.specs.Keys.{row_of}
use Rattle.shop_history.specs.Same.{same}

-- the tables after one entry
abbrev pub after : Tables → Entry → Tables
after t entry = (play t entry.stamp entry.act).tables

-- the shop as a history: entries over tables, read by keys
unfoldable pub history : History Tables Entry Key Row
history = record { after = after; row_of = row_of; same = same }

-- the tables after a log
abbrev pub tables : Tables → List Entry → Tables
tables t log = state_after history t log

-- the number of the last entry that changed what a key shows, or 0
abbrev pub version_of : Tables → List Entry → Key → ℕ
version_of t log key = histories.version_of history t log key

-- the page of the entry with a number, counted from 1
abbrev pub page_at : Tables → List Entry → ℕ → Option Page
page_at t log number =
    option_map (λ e. (play (tables t (take (number - 1) log)) e.stamp e.act).page) (row_numbered log number)

-- the entries of a caller
abbrev pub entries_of : ℕ → List Entry → List Entry
entries_of caller log = filter (λ e. e.caller == caller) log

-- an entry may follow this log: its stamp is no less than those before it, it has the caller's next
-- number, and its act is in form and not refused
pub record MayFollow (t : Tables) (log : List Entry) (entry : Entry) : Type 0 where
  pub stamps : All (λ e. e.stamp ≤ entry.stamp) log
  pub bound : entry.stamp ≤ stamp_limit
  pub number : entry.number ≡ length (entries_of entry.caller log) + 1
  pub form : IsInForm entry.act
  pub passes : check (tables t log) (request_of entry.act) ≡ None

-- a log in which each entry may follow those before it
abbrev pub Legal : Tables → List Entry → Type 0
Legal t log = histories.Legal (MayFollow t) log

-- sound tables with room for so many entries more
pub record IsGood (t : Tables) (room : ℕ) : Type 0 where
  pub sound : Sound t
  pub room_for : Room t room

-- tables that opened with the items and the authors of these
abbrev pub SameCatalogue : Tables → Tables → Type 0
SameCatalogue t other = opened other ≡ opened t
