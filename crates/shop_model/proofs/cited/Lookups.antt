-- Rows that are found by their numbers.
use Rattle.std.proofs.Common.{◌≡◌, ℕ, ◌-◌, ◌==◌, Bool, true, false, cond, List, map, None, refl}
use Rattle.std.specs.List.{slice_get}
use Rattle.std.specs.Option.{option_map}
use Rattle.std.proofs.lemmas.Option.{slice_get-map}
use Rattle.shop_model.specs.rows.Lookups.{row_numbered}

pub numbered_map : {A B : Type 0} (f : A → B) (xs : List A) (id : ℕ) → row_numbered (map f xs) id ≡ option_map f (row_numbered xs id)
numbered_map f xs id = by (id == 0)
  where
    by : (b : Bool) → cond b None (slice_get (map f xs) (id - 1)) ≡ option_map f (cond b None (slice_get xs (id - 1)))
    by true = refl
    by false = slice_get-map f xs (id - 1)
