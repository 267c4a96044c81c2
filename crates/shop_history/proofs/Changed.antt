-- A row changed in its place.
use Rattle.std.proofs.Common.{◌≡◌, ℕ, ◌-◌, List, length, map, Option, Some, None, All, refl, sym, ap, ◌∙◌}
use Rattle.std.proofs.Math.Seq.{map-set_same}
use Rattle.std.proofs.lemmas.List.{length-set}
use Rattle.std.proofs.lemmas.List.Elements.{All-set}
use Rattle.std.proofs.lemmas.Option.{get_or_from_slice_get}
use Rattle.shop_model.specs.rows.Lookups.{row_numbered}
use Rattle.shop_model.specs.trade.Buyers.{changed_row, changed_at}
use Rattle.shop_history.proofs.cited.Places.{is_there, row_set_other, all_numbered}

module _ {A : Type 0} (rows : List A) (id : ℕ) (change : A → A) where
  -- the other rows stay
  pub changed_other : (other : ℕ) → (other ≡ id → ⊥) → row_numbered (changed_at rows id change) other ≡ row_numbered rows other
  changed_other other apart = by (row_numbered rows id) refl
    where
      by : (row : Option A) → row_numbered rows id ≡ row → row_numbered (changed_row rows id change row) other ≡ row_numbered rows other
      by None is = refl
      by (Some row) is = row_set_other rows id other row (change row) is apart

  -- what can't tell a changed row from the one before is the same of all
  pub changed_keeps : {B : Type 0} (f : A → B) → ((x : A) → f (change x) ≡ f x) → map f (changed_at rows id change) ≡ map f rows
  changed_keeps {B} f keeps = by (row_numbered rows id) refl
    where
      by : (row : Option A) → row_numbered rows id ≡ row → map f (changed_row rows id change row) ≡ map f rows
      by None is = refl
      by (Some row) is =
          map-set_same f rows (id - 1) (change row) row
          (keeps row ∙ ap f (sym (get_or_from_slice_get rows (id - 1) row row (is_there rows id row is).at)))

  pub changed_all : (P : A → Type 0) → ((x : A) → P x → P (change x)) → All P rows → All P (changed_at rows id change)
  changed_all P stays all = by (row_numbered rows id) refl
    where
      by : (row : Option A) → row_numbered rows id ≡ row → All P (changed_row rows id change row)
      by None is = all
      by (Some row) is = All-set P rows (id - 1) (change row) (stays row (all_numbered P rows id row is all)) all

  pub changed_length : length (changed_at rows id change) ≡ length rows
  changed_length = by (row_numbered rows id)
    where
      by : (row : Option A) → length (changed_row rows id change row) ≡ length rows
      by None = refl
      by (Some row) = length-set rows (id - 1) (change row)
