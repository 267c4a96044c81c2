-- What is counted over a book.
use Rattle.std.specs.Prelude.{ℕ, nat_lt, Bool, List, length, filter, sum_by}
use Rattle.std.specs.Str.{bytes_eq}
use Rattle.std.specs.List.{list_any}
use Rattle.shop_model.specs.declared.tables.Tables.{Tables}
use Rattle.shop_model.specs.rows.Rows.{OrderRow}
use Rattle.shop_book.specs.Books.{BookValue, tables_of}
use Rattle.shop_book.specs.declared.summary.Summary.{Summary}

-- more than an order is charged, in cents: it has a hundred lines at most, of 999 units at 9,999.99 each
abbrev pub charge_limit : ℕ
charge_limit = 300_000_000_000

-- the orders that came after the opening
abbrev pub new_orders : Tables → List OrderRow
new_orders t = filter (λ o. nat_lt t.born_orders o.id) t.orders

-- what these were charged, in cents
abbrev pub cents_in : Tables → ℕ
cents_in t = sum_by (λ o. o.total) (new_orders t)

-- how many changes there were, how many orders came, and what they cost
unfoldable pub summary_of : BookValue → Summary
summary_of b = record {
  entries = length b.log;
  orders = length (new_orders (tables_of b));
  cents = cents_in (tables_of b);
}

-- some order has this authorisation
unfoldable pub has_auth : Tables → List ℕ → Bool
has_auth t auth = list_any (λ o. bytes_eq o.card.auth auth) t.orders
