-- A list of items, with the row that shows it.
use Rattle.std.specs.Prelude.{◌≡◌, ℕ, ◌≤◌, List, Option, IfSome, Vec, vec_capacity}
use Rattle.shop_model.specs.rows.Limits.{list_limit}
use Rattle.shop_history.specs.declared.keys.Key.{Key}
use Rattle.shop_history.specs.declared.keys.Key.TheVariants.{NewIn, BestIn}

-- the key of a list
abbrev pub IsList : Key → Type 0
IsList (NewIn subject) = Unit {0}
IsList (BestIn subject) = Unit {0}
IsList _ = ⊥

-- there is room for a whole list, and a row shows it, if there is one
pub record IsListing {Memory : Type 0} (ids : Vec ℕ Memory) (row : Option (List ℕ)) : Type 0 where
  pub room : list_limit ≤ vec_capacity ids
  pub row_is : IfSome row (λ shown. shown ≡ ids.items)
