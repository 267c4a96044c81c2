-- How the stock of an item follows its sales; this project's own.
use Rattle.std.specs.Prelude.{ℕ, ◌+◌, ◌-◌, ◌*◌, nat_le}
use Rattle.std.specs.Option.{unwrap_or}
use Rattle.std.specs.List.{range_with_len, find}

-- after a sale so many units have to be left
abbrev pub least_stock : ℕ
least_stock = 10

-- the least number of times that 21 units come in for a sale, so that enough are left; it is at most the units sold
unfoldable pub times_restocked : ℕ → ℕ → ℕ
times_restocked stock units =
    unwrap_or (find (λ times. nat_le (units + least_stock) (stock + 21 * times)) (range_with_len 0 (units + 1))) 0

-- the stock after a sale
unfoldable pub stock_after : ℕ → ℕ → ℕ
stock_after stock units = stock + 21 * times_restocked stock units - units
