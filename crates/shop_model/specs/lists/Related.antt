-- Who bought an item and what a customer bought in the latest orders, and the five items that are related to an item by that.
use Rattle.std.specs.Prelude.{ℕ, ◌+◌, ◌-◌, Bool, ◌==◌, ◌&&◌, not, nat_eq, nat_lt, List, [], ◌∷◌, ◌++◌, length, map, filter, take, drop, sum_by, flat_map, if◌then◌else◌}
use Rattle.std.specs.List.{list_any, range_with_len}
use Rattle.shop_model.specs.declared.tables.Tables.{Tables}
use Rattle.shop_model.specs.rows.Limits.{recent_orders}
use Rattle.shop_model.specs.rows.Rows.{OrderRow}
use Rattle.shop_model.specs.lists.Rankings.{Sale, better, in_order}

-- what counts of an order; its lines are pairs of an item and a quantity
pub record Sold : Type 0 where
  pub id : ℕ
  pub customer : ℕ
  pub lines : List (ℕ × ℕ)

abbrev pub sold_of : OrderRow → Sold
sold_of o = record { id = o.id; customer = o.customer; lines = map (λ l. (l.item, l.quantity)) o.lines }

-- the last elements of a list, so many at most
abbrev pub last : {A : Type 0} → ℕ → List A → List A
last n xs = drop (length xs - n) xs

-- a number among rising ones, where it is put unless it is there
unfoldable pub put_once : ℕ → List ℕ → List ℕ
put_once x [] = x ∷ []
put_once x (y ∷ ys) = if nat_lt y x then y ∷ put_once x ys else if x == y then y ∷ ys else x ∷ y ∷ ys

-- each of these numbers once, rising
unfoldable pub ascending : List ℕ → List ℕ
ascending [] = []
ascending (x ∷ xs) = put_once x (ascending xs)

-- the units of an item in lines
abbrev pub units_in_lines : ℕ → List (ℕ × ℕ) → ℕ
units_in_lines item lines = sum_by (λ l. l.1) (filter (λ l. l.0 == item) lines)

-- the units of an item in orders
abbrev pub units_in_orders : ℕ → List Sold → ℕ
units_in_orders item orders = sum_by (λ o. units_in_lines item o.lines) orders

-- whether an order is the customer's
abbrev pub is_of : ℕ → Sold → Bool
is_of customer o = o.customer == customer

-- whether an order has a line of the item
abbrev pub has_item : ℕ → Sold → Bool
has_item item o = list_any (λ l. l.0 == item) o.lines

-- the customers who ordered the item
abbrev pub buyers_in : List Sold → ℕ → List ℕ
buyers_in orders item = ascending (map (λ o. o.customer) (filter (has_item item) orders))

-- the lines of the customer's orders
abbrev pub lines_in : List Sold → ℕ → List (ℕ × ℕ)
lines_in orders customer = flat_map (λ o. o.lines) (filter (is_of customer) orders)

-- each item of these lines with its units
abbrev pub totals_of : List (ℕ × ℕ) → List (ℕ × ℕ)
totals_of lines = map (λ item. (item, units_in_lines item lines)) (ascending (map (λ l. l.0) lines))

-- the items that the customer ordered, with their units
abbrev pub bought_in : List Sold → ℕ → List (ℕ × ℕ)
bought_in orders customer = totals_of (lines_in orders customer)

-- the orders that count
abbrev pub recent : Tables → List Sold
recent t = map sold_of (last recent_orders t.orders)

abbrev pub buyers : Tables → ℕ → List ℕ
buyers t item = buyers_in (recent t) item

abbrev pub bought : Tables → ℕ → List (ℕ × ℕ)
bought t customer = bought_in (recent t) customer

-- an item, and its units in these lists
abbrev pub sale_among : List (List (ℕ × ℕ)) → ℕ → Sale
sale_among lists item = record { id = item; units = sum_by (units_in_lines item) lists }

-- the items besides this one that these lists have, of so many items
abbrev pub besides : List (List (ℕ × ℕ)) → ℕ → ℕ → List Sale
besides lists item items =
    filter (λ s. nat_lt 0 s.units && not (s.id == item)) (map (sale_among lists) (range_with_len 1 items))

-- the items that follow this one, and after the last one the first
abbrev pub cycle : ℕ → ℕ → List ℕ
cycle item items = range_with_len (item + 1) (items - item) ++ range_with_len 1 (item - 1)

-- five items, the first of these and then the first of those that are not among them
abbrev pub filled : List ℕ → List ℕ → List ℕ
filled most others = take 5 (most ++ filter (λ id. not (list_any (nat_eq id) most)) others)

-- the items besides this one that the lists have most units of, and then those that follow it
unfoldable pub five_of : List (List (ℕ × ℕ)) → ℕ → ℕ → List ℕ
five_of lists item items =
    filled (map (λ s. s.id) (take 5 (in_order better (besides lists item items)))) (cycle item items)

-- the five items that are related to an item by what its buyers bought
abbrev pub related : Tables → ℕ → List ℕ
related t item = five_of (map (bought t) (buyers t item)) item (length t.items)
