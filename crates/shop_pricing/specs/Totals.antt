-- What priced lines cost: triples of an item, a quantity, and the cost of one unit in cents.
use Rattle.std.specs.Prelude.{ℕ, ◌*◌, ◌≤◌, List, length, sum_by, All}
use Rattle.shop_model.specs.rows.Limits.{lines_limit, quantity_limit, price_limit}
use Rattle.shop_model.specs.trade.Money.{Money, money}
use Rattle.shop_pricing.specs.declared.totals.Totals.{Totals}

-- a line with a quantity and a cost that there may be
pub record IsPriced (line : ℕ × ℕ × ℕ) : Type 0 where
  pub quantity : line.1 ≤ quantity_limit
  pub cost : line.2 ≤ price_limit

-- few lines, with quantities and costs that there may be
pub record ArePriced (lines : List (ℕ × ℕ × ℕ)) : Type 0 where
  pub few : length lines ≤ lines_limit
  pub each : All IsPriced lines

-- what the lines cost without a discount
abbrev pub sum_of : List (ℕ × ℕ × ℕ) → ℕ
sum_of lines = sum_by (λ l. l.2 * l.1) lines

-- how many units they have
abbrev pub units_of : List (ℕ × ℕ × ℕ) → ℕ
units_of lines = sum_by (λ l. l.1) lines

-- a sum, and what the money rule makes of it
abbrev pub with_sum : ℕ → Money → Totals
with_sum sum m = record { sum = sum; sub = m.sub; tax = m.tax; ship = m.ship; total = m.total }

-- what the lines cost at a discount in per cent, taxed at a rate in hundredths of a per cent
abbrev pub totals_of : List (ℕ × ℕ × ℕ) → ℕ → ℕ → Totals
totals_of lines discount rate = with_sum (sum_of lines) (money (sum_of lines) (units_of lines) discount rate)
