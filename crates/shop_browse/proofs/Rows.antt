-- Rows by what is shown of them.
use Rattle.std.proofs.Common.{◌≡◌, ℕ, List, length, Option, Some, None, sym, ◌∙◌, ap}
use Rattle.shop_model.specs.rows.Lookups.{row_numbered}
use Rattle.shop_model.specs.rows.Sound.{Has}
use Rattle.shop_history.specs.declared.keys.Row.{Row}
use Rattle.shop_history.specs.declared.keys.Row.TheVariants as row
use Rattle.shop_history.specs.Keys.{shown}
use Rattle.shop_history.proofs.cited.Places.{some_row}

-- a row that is there is shown
pub shown_some : {A : Type 0} (make : A → Row) (o : Option A) (x : A) (r : Row) → o ≡ Some x → shown make o ≡ r → r ≡ make x
shown_some make o x r some is = sym is ∙ ap (shown make) some

-- a row that is shown is there
pub found_by : {A : Type 0} (make : A → Row) → ((x : A) → make x ≡ row.Absent → ⊥) → ((x y : A) → make x ≡ make y → x ≡ y) → (o : Option A) (y : A) → shown make o ≡ make y → o ≡ Some y
found_by make never same None y is = absurd (never y (sym is))
found_by make never same (Some x) y is = ap Some (same x y is)

-- a number that there is shows a row
pub there_shown : {A : Type 0} (make : A → Row) (xs : List A) (id : ℕ) (r : Row) → Has (length xs) id → shown make (row_numbered xs id) ≡ r → (x : A) × (r ≡ make x)
there_shown make xs id r has is = let found = some_row xs id has in (found.0, shown_some make (row_numbered xs id) found.0 r found.1 is)
