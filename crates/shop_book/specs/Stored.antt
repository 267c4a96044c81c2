-- The version that is stored for a key, and which keys have a place for one.
use Rattle.std.specs.Prelude.{◌≡◌, ℕ, ◌+◌, ◌≤◌, All, List, [], length, get_or, Option, Some, None, unwrap_or, bytes_eq}
use Rattle.std.specs.HashMap.{get, spare}
use Rattle.shop_model.specs.rows.Sound.{Has}
use Rattle.shop_history.specs.declared.keys.Key as key
use Rattle.shop_history.specs.declared.keys.Key.{Key}
use Rattle.shop_book.specs.Additions.{number_of, last_number, found_number}
use Rattle.shop_book.specs.Columns.{at}
use Rattle.shop_book.specs.Places.{place_of, sizes, grown, growth}
use Rattle.shop_book.specs.Said.{alike}
use Rattle.shop_book.specs.declared.puts.Put.{Put}
use Rattle.shop_book.specs.declared.rows.Rows.{Rows}
use Rattle.shop_book.specs.declared.versions.Versions.{Versions}

-- the numbers of a column
abbrev pub numbers : Versions → ℕ → List ℕ
numbers v column = get_or v.columns.items column []

-- the version of a key that has no place in a column, or 0
abbrev pub stored_apart : Versions → Key → ℕ
stored_apart v (key.TheVariants.Name user) = unwrap_or (get bytes_eq v.names user) 0
stored_apart v (key.TheVariants.SameAddress text) = unwrap_or (get alike v.said text) 0
stored_apart v (key.TheVariants.Label id) = number_of v.added id
stored_apart v key.TheVariants.Count = last_number v.added
stored_apart v (key.TheVariants.Added search) = found_number v.added search
stored_apart v _ = 0

abbrev pub stored_in : Versions → Key → Option (ℕ × ℕ) → ℕ
stored_in v key None = stored_apart v key
stored_in v key (Some place) = at (numbers v place.0) place.1

-- the version of a key, where it has one, or 0
abbrev pub stored : Versions → Key → ℕ
stored v key = stored_in v key (place_of key)

abbrev pub IsText : Key → Type 0
IsText (key.TheVariants.Name user) = Unit {0}
IsText (key.TheVariants.SameAddress text) = Unit {0}
IsText _ = ⊥

abbrev pub HasPlaceIn : Versions → Key → Option (ℕ × ℕ) → Type 0
HasPlaceIn v key None = IsText key
HasPlaceIn v key (Some place) = Has (length (numbers v place.0)) place.1

-- a version can be stored for a key; for one that is a text, where there is room
abbrev pub HasPlace : Versions → Key → Type 0
HasPlace v key = HasPlaceIn v key (place_of key)

-- each row has a place
pub record HasPlaces (v : Versions) (rows : Rows) : Type 0 where
  pub long : length v.columns.items ≡ 11
  pub each : (column : ℕ) → get_or (sizes rows) column 0 ≤ length (numbers v column)

-- no place goes, and what is kept of added items stays
pub record MorePlaces (old new : Versions) : Type 0 where
  pub long : length new.columns.items ≡ length old.columns.items
  pub each : (column : ℕ) → length (numbers old column) ≤ length (numbers new column)
  pub added : new.added ≡ old.added

-- so many rows that a write may add have places, beside each row
abbrev pub HasRoomFor : Versions → Rows → ℕ → Put → Type 0
HasRoomFor v rows more put = All (λ column. get_or (sizes rows) column 0 + more ≤ length (numbers v column)) (grown put)

-- each row has a place, and each that the writes add
pub record HasRoom (v : Versions) (rows : Rows) (puts : List Put) : Type 0 where
  pub long : length v.columns.items ≡ 11
  pub each : (column : ℕ) → get_or (sizes rows) column 0 + growth puts column ≤ length (numbers v column)

-- so many keys more that are texts can get versions
pub record HasSpare (v : Versions) (more : ℕ) : Type 0 where
  pub names : more ≤ spare v.names
  pub said : more ≤ spare v.said

-- one key got a version at most
abbrev pub SparesOne : Versions → Versions → Type 0
SparesOne old new = (more : ℕ) → HasSpare old (more + 1) → HasSpare new more

-- a key can get a version; it takes room where it is a text
abbrev pub SpareFor : Key → Versions → Type 0
SpareFor (key.TheVariants.Name user) v = HasSpare v 1
SpareFor (key.TheVariants.SameAddress text) v = HasSpare v 1
SpareFor _ v = Unit {0}
