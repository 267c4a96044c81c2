-- What holds of the tables at all times, and how much room they have; this project's own.
use Rattle.std.specs.Prelude.{◌≡◌, ◌≢◌, ℕ, ◌+◌, ◌*◌, ◌^◌, ◌<◌, ◌≤◌, ◌==◌, nat_lt, List, length, map, filter, sum_by, max, Option, All, IfSome, AllPairs}
use Rattle.std.specs.List.{range_with_len, reduce}
use Rattle.shop_text.specs.Texts.{digsyl}
use Rattle.shop_model.specs.declared.tables.Tables.{Tables}
use Rattle.shop_model.specs.rows.Limits.{lines_limit, quantity_limit, restocks_limit}
use Rattle.shop_model.specs.rows.Rows.{ItemRow, LineRow, OrderRow, CartRow, IsCountry, IsItem, IsCustomer, IsOrder, IsLine, IsCardUse, IsCart}
use Rattle.shop_model.specs.trade.Money.{totals, charged}

-- a table of so many rows has this id
pub record Has (size id : ℕ) : Type 0 where
  pub first : 1 ≤ id
  pub last : id ≤ size

-- a quantity that a line may have
pub record IsQuantity (quantity : ℕ) : Type 0 where
  pub some : 1 ≤ quantity
  pub few : quantity ≤ quantity_limit

-- an order has lines, numbered from 1
pub record HasLines (o : OrderRow) : Type 0 where
  pub some : 1 ≤ length o.lines
  pub few : length o.lines ≤ lines_limit
  pub numbers : map (λ l. l.number) o.lines ≡ range_with_len 1 (length o.lines)
  pub quantities : All (λ l. IsQuantity l.quantity) o.lines

-- an order was charged by the money rule over its lines, its discount and its rate
abbrev pub IsCharged : OrderRow → Type 0
IsCharged o = charged o ≡ totals o.lines o.discount o.rate

-- the card paid what the order was charged
abbrev pub IsPaid : OrderRow → Type 0
IsPaid o = o.card.total ≡ o.total

-- the units of an item in these lines
abbrev pub units_in : ℕ → List LineRow → ℕ
units_in item lines = sum_by (λ l. l.quantity) (filter (λ l. l.item == item) lines)

-- the units of an item in the orders that came after the opening
abbrev pub sold : Tables → ℕ → ℕ
sold t item =
    sum_by (λ o. units_in item o.lines) (filter (λ o. nat_lt t.born_orders o.id) t.orders)

-- stock is what there was and what came, 21 at a time, without what was sold
pub record IsStocked (t : Tables) (i : ItemRow) : Type 0 where
  pub level : i.stock + sold t i.id ≡ i.first_stock + 21 * i.restocks
  pub low : 10 ≤ i.stock

-- each item names an author that there is
pub record AuthorsExist (t : Tables) : Type 0 where
  pub authors : All (λ i. Has (length t.authors) i.author) t.items

-- the ids that an order names exist
pub record OrderNames (t : Tables) (o : OrderRow) : Type 0 where
  pub customer : Has (length t.customers) o.customer
  pub ship_address : Has (length t.addresses) o.ship_address
  pub country : Has (length t.countries) o.card.country
  pub items : All (λ l. Has (length t.items) l.item) o.lines

-- every id that a row names exists
pub record NamesExist (t : Tables) : Type 0 where
  pub addresses : All (λ a. Has (length t.countries) a.text.country) t.addresses
  pub customers : All (λ c. Has (length t.addresses) c.address) t.customers
  pub authors : AuthorsExist t
  pub related : All (λ i. All (Has (length t.items)) i.related) t.items
  pub orders : All (OrderNames t) t.orders
  pub carts : All (λ c. All (λ l. Has (length t.items) l.0) c.lines) t.carts
  pub last : All (λ o. IfSome o (Has (length t.orders))) t.last

-- five related items, distinct, none the item itself
pub record HasFive (i : ItemRow) : Type 0 where
  pub five : length i.related ≡ 5
  pub distinct : AllPairs (λ a b. a ≢ b) i.related
  pub others : All (λ a. a ≢ i.id) i.related

-- ids run from 1 without a gap and fit u32
pub record Runs (ids : List ℕ) : Type 0 where
  pub from_one : ids ≡ range_with_len 1 (length ids)
  pub fits : length ids < 2 ^ 32

-- so in each table
pub record IdsRun (t : Tables) : Type 0 where
  pub countries : Runs (map (λ r. r.id) t.countries)
  pub addresses : Runs (map (λ r. r.id) t.addresses)
  pub customers : Runs (map (λ r. r.id) t.customers)
  pub authors : Runs (map (λ r. r.id) t.authors)
  pub items : Runs (map (λ r. r.id) t.items)
  pub orders : Runs (map (λ r. r.id) t.orders)
  pub carts : Runs (map (λ r. r.id) t.carts)

-- a cart has few lines, of distinct items
pub record IsFit (c : CartRow) : Type 0 where
  pub few : length c.lines ≤ lines_limit
  pub distinct : AllPairs (λ a b. a.0 ≢ b.0) c.lines
  pub quantities : All (λ l. IsQuantity l.1) c.lines

-- the greatest id among a customer's orders
unfoldable pub last_of : List OrderRow → ℕ → Option ℕ
last_of orders customer =
    reduce max (map (λ o. o.id) (filter (λ o. o.customer == customer) orders))

-- each row keeps its own bounds
pub record InBounds (t : Tables) : Type 0 where
  pub countries : All IsCountry t.countries
  pub customers : All IsCustomer t.customers
  pub items : All IsItem t.items
  pub orders : All IsOrder t.orders
  pub lines : All (λ o. All IsLine o.lines) t.orders
  pub cards : All (λ o. IsCardUse o.card) t.orders
  pub carts : All IsCart t.carts

-- the ten conditions of consistency, the bounds and the fixed sizes
pub record Sound (t : Tables) : Type 0 where
  pub lines : All HasLines t.orders
  pub charges : All IsCharged t.orders
  pub payments : All IsPaid t.orders
  pub stock : All (IsStocked t) t.items
  pub names : NamesExist t
  pub related : All HasFive t.items
  pub users : All (λ c. c.user ≡ digsyl c.id) t.customers
  pub ids : IdsRun t
  pub carts : All IsFit t.carts
  pub last : t.last ≡ map (λ c. last_of t.orders c.id) t.customers
  pub bounds : InBounds t
  pub countries : length t.countries ≡ 92
  pub six : 6 ≤ length t.items
  pub born : t.born_orders ≤ length t.orders
  pub born_items : t.born_items ≤ length t.items

-- so many entries more may come: each adds one row to a table at most, and restocks 49 times
pub record Room (t : Tables) (entries : ℕ) : Type 0 where
  pub countries : length t.countries + entries < 2 ^ 32
  pub addresses : length t.addresses + entries < 2 ^ 32
  pub customers : length t.customers + entries < 2 ^ 32
  pub authors : length t.authors + entries < 2 ^ 32
  pub items : length t.items + entries < 2 ^ 32
  pub orders : length t.orders + entries < 2 ^ 32
  pub carts : length t.carts + entries < 2 ^ 32
  pub restocks : All (λ i. i.restocks + 49 * entries ≤ restocks_limit) t.items
