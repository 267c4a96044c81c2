-- A caller's seat at a shop, and what its calls leave.
use Rattle.std.specs.Prelude.{◌≡◌, ℕ, ◌+◌, ◌-◌, ◌^◌, ◌≤◌, min, List, length, Option, IsSome}
use Rattle.shop_log.specs.Histories.{Extends}
use Rattle.shop_model.specs.declared.tables.Tables.{Tables}
use Rattle.shop_history.specs.declared.acts.Entry.{Entry}
use Rattle.shop_history.specs.declared.keys.Key.{Key}
use Rattle.shop_history.specs.declared.keys.Row.{Row}
use Rattle.shop_history.specs.Keys.{row_of}
use Rattle.shop_history.specs.Logs.{tables, version_of, entries_of, Legal, IsGood}

-- which shop, its opening tables and the limit of its log; whose seat; the log seen, and the entries
-- made here; counts of calls and settles, and the greatest moment of a settle that was done, 0 where
-- there is none; and the shop's latest stamp, where this caller is the only one
pub record Seat : Type 0 where
  pub shop : List ℕ
  pub opening : Tables
  pub limit : ℕ
  pub caller : ℕ
  pub seen : List Entry
  pub own : List Entry
  pub calls : ℕ
  pub settles : ℕ
  pub greatest : ℕ
  pub latest : Option ℕ

-- the opening tables are sound and have room for one entry more than the log may have, and the log seen is legal and within its limit
pub record IsSeat (seat : Seat) : Type 0 where
  pub good : IsGood seat.opening (seat.limit + 1)
  pub legal : Legal seat.opening seat.seen
  pub short : length seat.seen ≤ seat.limit

-- the last value of a stored count
abbrev pub last_count : ℕ
last_count = 2 ^ 64 - 1

-- a count rose, or stands at its last value
abbrev pub Rose : ℕ → ℕ → Type 0
Rose before now = min (before + 1) last_count ≤ now

-- a count rose by one, or stands at its last value
pub record RoseOnce (before now : ℕ) : Type 0 where
  pub rose : Rose before now
  pub kept : before ≤ now
  pub once : now ≤ before + 1

-- what no call changes, that the log seen and the count of calls only grow, and that a seat stays one
pub record Follows (old new : Seat) : Type 0 where
  pub shop : new.shop ≡ old.shop
  pub opening : new.opening ≡ old.opening
  pub limit : new.limit ≡ old.limit
  pub caller : new.caller ≡ old.caller
  pub grows : Extends old.seen new.seen
  pub calls : old.calls ≤ new.calls
  pub valid : IsSeat old → IsSeat new

-- calls settled nothing: the log seen may have grown, by entries of other callers alone
pub record Looked (old new : Seat) : Type 0 where
  pub follows : Follows old new
  pub mine : entries_of new.caller new.seen ≡ entries_of old.caller old.seen
  pub own : new.own ≡ old.own
  pub settles : new.settles ≡ old.settles
  pub greatest : new.greatest ≡ old.greatest
  pub latest : new.latest ≡ old.latest
  pub alone : IsSome old.latest → new.seen ≡ old.seen

-- what a key shows in the log seen, and its version
pub record IsReadAt (seat : Seat) (key : Key) (read : Row × ℕ) : Type 0 where
  pub row : read.0 ≡ row_of (tables seat.opening seat.seen) key
  pub version : read.1 ≡ version_of seat.opening seat.seen key
