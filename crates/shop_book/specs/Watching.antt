-- What is kept of the keys that a change may change, so that only those that it does change get its version.
use Rattle.std.specs.Prelude.{◌≡◌, ◌≢◌, ℕ, ◌+◌, ◌^◌, ◌<◌, List, length, map, All}
use Rattle.shop_model.specs.declared.tables.Tables.{Tables}
use Rattle.shop_model.specs.rows.Sound.{Runs}
use Rattle.shop_history.specs.declared.keys.Key as key
use Rattle.shop_history.specs.declared.keys.Key.{Key}
use Rattle.shop_history.specs.declared.keys.Row.TheVariants.{Absent}
use Rattle.shop_history.specs.Keys.{row_of}
use Rattle.shop_book.specs.declared.rows.Rows.{Rows}
use Rattle.shop_book.specs.declared.versions.Versions.{Versions}
use Rattle.shop_book.specs.declared.watching.Watched.{Watched}
use Rattle.shop_book.specs.Named.{AreNamed}
use Rattle.shop_book.specs.RowsNow.{tables_with}
use Rattle.shop_book.specs.Stored.{stored, HasPlace}

-- the kinds of keys whose rows are compared: those that acts may change
abbrev pub IsWatchable : Key → Type 0
IsWatchable (key.TheVariants.Item id) = Unit {0}
IsWatchable (key.TheVariants.Customer id) = Unit {0}
IsWatchable (key.TheVariants.Cart id) = Unit {0}
IsWatchable (key.TheVariants.Name user) = Unit {0}
IsWatchable (key.TheVariants.Address id) = Unit {0}
IsWatchable (key.TheVariants.SameAddress text) = Unit {0}
IsWatchable _ = ⊥

-- rows of which one more may come of each kind, with items that are numbered and customers who are found by name
pub record MayCome (rows : Rows) : Type 0 where
  pub carts : length rows.carts.items + 1 < 2 ^ 32
  pub customers : length rows.customers.items + 1 < 2 ^ 32
  pub addresses : length rows.addresses.rows + 1 < 2 ^ 32
  pub orders : length rows.orders.items + 1 < 2 ^ 32
  pub items : length rows.items.items + 1 < 2 ^ 32
  pub numbered : Runs (map (λ i. i.id) rows.items.items)
  pub named : AreNamed rows.customers.items

-- a watched key, which has a place for a version where it showed a row
pub record CanWatch (versions : Versions) (watched : Watched) : Type 0 where
  pub kind : IsWatchable watched.key
  pub place : watched.row ≢ Absent → HasPlace versions watched.key

-- watched keys with what they show in these tables
abbrev pub AreOf : Tables → List Watched → Type 0
AreOf t watched = All (λ w. w.row ≡ row_of t w.key) watched

abbrev pub keys_of : List Watched → List Key
keys_of watched = map (λ w. w.key) watched

-- the key of a row kept gets this number, unless it still shows that row; other keys keep their versions
pub record RaisesOne (rows : Rows) (number : ℕ) (kept : Watched) (old new : Versions) : Type 0 where
  pub same : (t : Tables) → row_of (tables_with t rows) kept.key ≡ kept.row → stored new kept.key ≡ stored old kept.key
  pub changed : (t : Tables) → row_of (tables_with t rows) kept.key ≢ kept.row → stored new kept.key ≡ number
  pub others : (other : Key) → other ≢ kept.key → stored new other ≡ stored old other
