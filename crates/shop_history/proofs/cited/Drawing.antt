-- The ids of new rows.
use Rattle.std.proofs.Common.{◌≡◌, ◌+◌, List, [], ◌∷◌, ◌++◌, length, Some, arith, length-append}
use Rattle.std.proofs.lemmas.Bool.{cond-true, lt-ltb}
use Rattle.shop_history.specs.Drawing.{new_id}

module _ {Row : Type 0} where
  -- a row more is the new one
  pub id_pushed : (rows : List Row) (row : Row) → new_id rows (rows ++ row ∷ []) ≡ Some (length rows + 1)
  id_pushed rows row = cond-true _ _ _ (lt-ltb (length rows) (length (rows ++ row ∷ [])) (omega (arith, length-append rows (row ∷ []))))
