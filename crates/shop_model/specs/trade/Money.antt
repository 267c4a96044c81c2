-- The money rule, in whole cents; its numbers are this project's own.
use Rattle.std.specs.Prelude.{ℕ, ◌+◌, ◌-◌, ◌*◌, ◌/◌, List, sum_by}
use Rattle.shop_model.specs.rows.Rows.{LineRow, OrderRow}

-- what an order costs: its lines less the discount, tax, shipping, and all of it
pub record Money : Type 0 where
  pub sub : ℕ
  pub tax : ℕ
  pub ship : ℕ
  pub total : ℕ

-- a / b to the nearest whole number, halves up
abbrev pub half_up : ℕ → ℕ → ℕ
half_up a b = (2 * a + b) / (2 * b)

-- a sum less a discount in per cent
unfoldable pub sub_of : ℕ → ℕ → ℕ
sub_of sum discount = half_up (sum * (100 - discount)) 100

-- a tax at a rate in hundredths of a per cent
unfoldable pub tax_of : ℕ → ℕ → ℕ
tax_of sub rate = half_up (sub * rate) 10_000

-- 3.00 for an order and 1.00 for each unit
unfoldable pub ship_of : ℕ → ℕ
ship_of units = 300 + 100 * units

unfoldable pub money : ℕ → ℕ → ℕ → ℕ → Money
money sum units discount rate = record {
  sub = sub_of sum discount;
  tax = tax_of (sub_of sum discount) rate;
  ship = ship_of units;
  total = sub_of sum discount + tax_of (sub_of sum discount) rate + ship_of units;
}

-- what lines cost without a discount, and how many units they have
unfoldable pub sum_of : List LineRow → ℕ
sum_of lines = sum_by (λ l. l.cost * l.quantity) lines

unfoldable pub units_of : List LineRow → ℕ
units_of lines = sum_by (λ l. l.quantity) lines

-- what lines cost at a discount, taxed at a rate
abbrev pub totals : List LineRow → ℕ → ℕ → Money
totals lines discount rate = money (sum_of lines) (units_of lines) discount rate

-- what an order was charged
abbrev pub charged : OrderRow → Money
charged o = record { sub = o.sub; tax = o.tax; ship = o.ship; total = o.total }
