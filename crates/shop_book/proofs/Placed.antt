-- Which keys have a place for a version, and when two carts are equal.
use Rattle.std.proofs.Common.{◌≡◌, ◌≢◌, ℕ, ◌-◌, ◌≤◌, ◌&&◌, Bool, true, List, length, Option, Some, None, nat_eq, refl, sym, ◌∙◌, ap, arith}
use Rattle.std.specs.Cmp.Lexicographic.{pointwise}
use Rattle.std.proofs.lemmas.Option.{slice_get_within}
use lib.Pointwise.{pointwise_decides}
use Rattle.shop_model.specs.declared.tables.Tables.{Tables}
use Rattle.shop_model.specs.rows.Lookups.{row_numbered}
use Rattle.shop_model.specs.rows.Rows.{CartRow}
use Rattle.shop_model.specs.rows.Sound.{Has}
use Rattle.shop_history.specs.declared.keys.Key as key
use Rattle.shop_history.specs.declared.keys.Key.{Key}
use Rattle.shop_history.specs.declared.keys.Row.{Row}
use Rattle.shop_history.specs.declared.keys.Row.TheVariants as row
use Rattle.shop_history.specs.Keys.{row_of, shown}
use Rattle.shop_history.specs.Same.{same}
use Rattle.shop_history.proofs.cited.Places.{IsThere, is_there}
use Rattle.shop_book.specs.declared.rows.Rows.{Rows}
use Rattle.shop_book.specs.declared.versions.Versions.{Versions}
use Rattle.shop_book.specs.Places.{place_of}
use Rattle.shop_book.specs.Stored.{HasPlace, HasPlaceIn, HasPlaces, MorePlaces}
use Rattle.shop_book.specs.RowsNow.{tables_with}
use Rattle.shop_book.specs.Watching.{CanWatch, IsWatchable}

pub has_row : {A : Type 0} (rows : List A) (id : ℕ) (x : A) → row_numbered rows id ≡ Some x → Has (length rows) id
has_row rows id x is =
    let there : IsThere rows id x = is_there rows id x is in
    record { first = there.above; last = omega (arith, slice_get_within rows (id - 1) x there.at, there.above) }

pub more_places : (size more id : ℕ) → size ≤ more → Has size id → Has more id
more_places size more id longer has = record { first = has.first; last = omega (arith, has.last, longer) }

pub same_places : {v : Versions} → MorePlaces v v
same_places = record { long = refl; each = λ column. omega arith; added = refl }

pub then_more : {old mid new : Versions} → MorePlaces old mid → MorePlaces mid new → MorePlaces old new
then_more first next = record { long = next.long ∙ first.long; each = λ column. omega (arith, first.each column, next.each column); added = next.added ∙ first.added }

pub more_have : {v w : Versions} {rows : Rows} → MorePlaces v w → HasPlaces v rows → HasPlaces w rows
more_have more has = record { long = more.long ∙ has.long; each = λ column. omega (arith, more.each column, has.each column) }

-- a key keeps its place
pub more_place : (old new : Versions) (k : Key) → MorePlaces old new → HasPlace old k → HasPlace new k
more_place old new k more has = by (place_of k) has
  where
    by : (o : Option (ℕ × ℕ)) → HasPlaceIn old k o → HasPlaceIn new k o
    by None is = is
    by (Some place) is = more_places _ _ place.1 (more.each place.0) is

-- a row that is shown is one of so many
shown_has : {A : Type 0} (make : A → Row) (rows : List A) (id size : ℕ) → length rows ≤ size → shown make (row_numbered rows id) ≢ row.Absent → Has size id
shown_has make rows id size few is_shown =
    elim (row_numbered rows id) as (λ there. row_numbered rows id ≡ there → shown make there ≢ row.Absent → Has size id) [
      | None ↦ (λ is some. absurd (some refl))
      | Some x ↦ (λ is some. more_places _ _ id few (has_row rows id x is))
    ] refl is_shown

-- a watched key that shows a row has a place
pub place_shown : (v : Versions) (rows : Rows) (t : Tables) (k : Key) → IsWatchable k → HasPlaces v rows → row_of (tables_with t rows) k ≢ row.Absent → HasPlace v k
place_shown v rows t (key.TheVariants.Item id) kind places is_shown = shown_has row.Item rows.items.items id _ (places.each 0) is_shown
place_shown v rows t (key.TheVariants.Customer id) kind places is_shown = shown_has row.Customer rows.customers.items id _ (places.each 2) is_shown
place_shown v rows t (key.TheVariants.Cart id) kind places is_shown = shown_has row.Cart rows.carts.items id _ (places.each 3) is_shown
place_shown v rows t (key.TheVariants.Address id) kind places is_shown = shown_has row.Address rows.addresses.rows id _ (places.each 8) is_shown
place_shown v rows t (key.TheVariants.Name user) kind places is_shown = tt
place_shown v rows t (key.TheVariants.SameAddress text) kind places is_shown = tt
place_shown v rows t _ kind places is_shown = absurd kind

-- and so has one that shows another row than it did
pub place_changed : (v : Versions) (rows : Rows) (t : Tables) (k : Key) (kept : Row) → CanWatch v (record { key = k; row = kept }) → HasPlaces v rows
    → row_of (tables_with t rows) k ≢ kept → HasPlace v k
place_changed v rows t k kept can places changed =
    elim (same (row_of (tables_with t rows) k) row.Absent) as (λ _. HasPlace v k) [
      | yes gone ↦ can.place (λ absent. changed (gone ∙ sym absent))
      | no there ↦ place_shown v rows t k can.kind places there
    ]

same_line : (a b : ℕ × ℕ) → (nat_eq a.0 b.0 && nat_eq a.1 b.1) ≡ true → a ≡ b
same_line a b is = grind (arith, is)

line_same : (a b : ℕ × ℕ) → a ≡ b → (nat_eq a.0 b.0 && nat_eq a.1 b.1) ≡ true
line_same a b is = grind (arith, is)

-- the test of lines tells just those that are equal
pub carts_same : (cart other : CartRow) (same : Bool) → cart.id ≡ other.id → same ≡ pointwise (λ a b. nat_eq a.0 b.0 && nat_eq a.1 b.1) cart.lines other.lines
    → (same ≡ true → cart ≡ other) × (cart ≡ other → same ≡ true)
carts_same cart other same id is =
    let lines = pointwise_decides (λ (a b : ℕ × ℕ). (same_line a b, line_same a b)) cart.lines other.lines in
    let make : ℕ → List (ℕ × ℕ) → CartRow = λ id lines. record { id = id; lines = lines } in
    (λ yes. ap (λ (n : ℕ). make n cart.lines) id ∙ ap (make other.id) (lines.0 (sym is ∙ yes)), λ equal. is ∙ lines.1 (ap (λ (c : CartRow). c.lines) equal))
