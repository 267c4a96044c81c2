-- What contracts see of an item's stock, and its bounds.
use Rattle.std.specs.Prelude.{ℕ, ◌≤◌}
use Rattle.shop_model.specs.rows.Limits.{stock_limit, restocks_limit}

pub record StockRow : Type 0 where
  pub item : ℕ
  pub stock : ℕ
  pub restocks : ℕ

pub record IsStock (row : StockRow) : Type 0 where
  pub stock : row.stock ≤ stock_limit
  pub restocks : row.restocks ≤ restocks_limit
