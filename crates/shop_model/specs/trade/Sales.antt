-- What a purchase makes of the tables; this project's own after the TPC-W specification's Buy Confirm.
use Rattle.std.specs.Prelude.{ℕ, ◌+◌, ◌-◌, ◌%◌, min, List, [], ◌∷◌, ◌++◌, length, map, Option, Some, None, slice_set, unwrap_or}
use Rattle.shop_model.specs.declared.address.Address.{Address}
use Rattle.shop_model.specs.declared.address.AddressText.{AddressText}
use Rattle.shop_model.specs.declared.order_state.OrderState.TheVariants.{Pending}
use Rattle.shop_model.specs.declared.refusal.Refusal.{Refusal}
use Rattle.shop_model.specs.declared.refusal.Refusal.TheVariants.{NoCustomer}
use Rattle.shop_model.specs.declared.tables.Tables.{Tables}
use Rattle.shop_model.specs.declared.tax.TaxRule.{TaxRule}
use Rattle.shop_model.specs.asked.PurchaseAsked.{PurchaseAsked}
use Rattle.shop_model.specs.rows.Limits.{day_of, day_limit}
use Rattle.shop_model.specs.rows.Lookups.{row_numbered, country_of}
use Rattle.shop_model.specs.rows.Rows.{ItemRow, CustomerRow, LineRow, OrderRow}
use Rattle.shop_model.specs.rows.Sound.{units_in}
use Rattle.shop_model.specs.trade.Buyers.{address_saying, addresses_with, address_id, check_bought}
use Rattle.shop_model.specs.trade.Carts.{first_of, lines_named}
use Rattle.shop_model.specs.trade.Money.{Money, totals}
use Rattle.shop_model.specs.trade.Stocks.{times_restocked, stock_after}
use Rattle.shop_model.specs.trade.Taxes.{rate_by}
use Rattle.shop_model.specs.pages.Priced.{order_lines}

-- why nobody buys: the customer is not there
abbrev pub check_known : Option CustomerRow → Option Refusal
check_known None = Some NoCustomer
check_known (Some customer) = None

-- why a purchase is refused: the customer is looked at first, then the cart
abbrev pub check_purchase : Tables → PurchaseAsked → Option Refusal
check_purchase t asked =
    first_of (check_known (row_numbered t.customers asked.c)) (check_bought (row_numbered t.carts asked.cart))

-- the lines of the cart, at what the items cost
abbrev pub bought_lines : Tables → ℕ → List LineRow
bought_lines t cart = order_lines t 1 (unwrap_or (lines_named t.carts (Some cart)) [])

-- where it ships to: the address that is given, else the customer's
abbrev pub ship_addresses : Tables → Option AddressText → List Address
ship_addresses t None = t.addresses
ship_addresses t (Some text) = addresses_with t.addresses text (address_saying t text)

abbrev pub ship_id : Tables → CustomerRow → Option AddressText → ℕ
ship_id t customer None = customer.address
ship_id t customer (Some text) = address_id t.addresses (address_saying t text)

abbrev pub ship_country : Tables → CustomerRow → Option AddressText → ℕ
ship_country t customer None = country_of t customer.address
ship_country t customer (Some text) = text.country

-- on which terms a purchase is made: the digits of its authorisation, and the rule of its tax
pub record Terms : Type 0 where
  pub auth : List ℕ
  pub tax : TaxRule

-- the rate of a purchase: that of the country to which it ships, where the rule is by country
abbrev pub sale_rate : Tables → TaxRule → CustomerRow → PurchaseAsked → ℕ
sale_rate t tax customer asked = rate_by tax t (ship_country t customer asked.address)

-- the order of a customer for these lines, which cost so much
abbrev pub order_for : Tables → ℕ → ℕ → Terms → PurchaseAsked → CustomerRow → List LineRow → Money → OrderRow
order_for t stamp draw terms asked customer lines price = record {
  id = length t.orders + 1;
  customer = customer.id;
  placed = stamp;
  discount = customer.discount;
  rate = sale_rate t terms.tax customer asked;
  sub = price.sub;
  tax = price.tax;
  ship = price.ship;
  total = price.total;
  ship_type = asked.ship;
  ship_day = min (day_of stamp + (1 + draw % 7)) day_limit;
  ship_address = ship_id t customer asked.address;
  status = Pending;
  lines = lines;
  card = record {
    card = asked.payment.card;
    number = asked.payment.number;
    name = asked.payment.name;
    expiry = asked.payment.expiry;
    auth = terms.auth;
    total = price.total;
    stamp = stamp;
    country = ship_country t customer asked.address;
  };
}

-- what a customer's cart costs
abbrev pub price_of : Tables → TaxRule → CustomerRow → PurchaseAsked → Money
price_of t tax customer asked = totals (bought_lines t asked.cart) customer.discount (sale_rate t tax customer asked)

abbrev pub new_order : Tables → ℕ → ℕ → Terms → PurchaseAsked → CustomerRow → OrderRow
new_order t stamp draw terms asked customer =
    order_for t stamp draw terms asked customer (bought_lines t asked.cart) (price_of t terms.tax customer asked)

-- an item after an order
abbrev pub sold_item : OrderRow → ItemRow → ItemRow
sold_item order item = record item {
  stock = stock_after item.stock (units_in item.id order.lines);
  restocks = item.restocks + times_restocked item.stock (units_in item.id order.lines);
}

-- an order more: its items were sold, and it is its customer's last
abbrev pub with_order : Tables → OrderRow → Tables
with_order t order = record t {
  items = map (sold_item order) t.items;
  orders = t.orders ++ order ∷ [];
  last = slice_set t.last (order.customer - 1) (Some order.id);
}

-- the address comes, then the order, and the cart is emptied
abbrev pub with_purchase : Tables → PurchaseAsked → OrderRow → Tables
with_purchase t asked order =
    record (with_order (record t { addresses = ship_addresses t asked.address }) order) {
      carts = slice_set t.carts (asked.cart - 1) (record { id = asked.cart; lines = [] });
    }

-- the tables after a customer bought a cart
abbrev pub tables_bought : Tables → ℕ → ℕ → Terms → PurchaseAsked → Option CustomerRow → Tables
tables_bought t stamp draw terms asked None = t
tables_bought t stamp draw terms asked (Some customer) = with_purchase t asked (new_order t stamp draw terms asked customer)
