-- What holds of the lines of a cart, pairs of an item and a quantity, at all times.
use Rattle.std.specs.Prelude.{ℕ, ◌≤◌, List, length, All}
use Rattle.shop_model.specs.rows.Limits.{lines_limit}
use Rattle.shop_model.specs.rows.Sound.{IsQuantity}

-- few lines, each with a quantity that a line may have
pub record AreLines (lines : List (ℕ × ℕ)) : Type 0 where
  pub few : length lines ≤ lines_limit
  pub quantities : All (λ l. IsQuantity l.1) lines
