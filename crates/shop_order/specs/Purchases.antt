-- A purchase whose rows are read, what it costs, and the order and the writes that it makes.
use Rattle.std.specs.Prelude.{◌≡◌, ℕ, ◌+◌, ◌≤◌, min, List, [], ◌∷◌, ◌++◌, All, Option, Some, None, flat_map}
use Rattle.shop_model.specs.declared.address.AddressText.{AddressText}
use Rattle.shop_model.specs.declared.order_state.OrderState.TheVariants.{Pending}
use Rattle.shop_model.specs.declared.requests.Request.TheVariants.{BuyConfirm}
use Rattle.shop_model.specs.declared.tables.Tables.{Tables}
use Rattle.shop_model.specs.declared.tax.TaxRule.{TaxRule}
use Rattle.shop_model.specs.asked.PurchaseAsked.{PurchaseAsked, CardAsked}
use Rattle.shop_model.specs.lists.Catalogues.{Catalogue}
use Rattle.shop_model.specs.rows.Limits.{charged_rate_limit, restocks_limit}
use Rattle.shop_model.specs.rows.Lookups.{row_numbered}
use Rattle.shop_model.specs.rows.Rows.{ItemRow, CustomerRow, LineRow, CardUseRow, OrderRow}
use Rattle.shop_model.specs.rows.Sound.{IsFit}
use Rattle.shop_model.specs.trade.Stocks.{least_stock, times_restocked, stock_after}
use Rattle.shop_model.specs.trade.Taxes.{flat_rate}
use Rattle.shop_history.specs.declared.acts.Drawn.{Drawn}
use Rattle.shop_history.specs.declared.keys.Row.{Row}
use Rattle.shop_history.specs.declared.keys.Row.TheVariants as rows
use Rattle.shop_draft.specs.Drawing.{day_after, or_zero}
use Rattle.shop_attempt.specs.declared.attempts.ReadOf.{ReadOf}
use Rattle.shop_attempt.specs.declared.attempts.Write.{Write}
use Rattle.shop_attempt.specs.declared.attempts.Write.TheVariants.{PutCart, AddAddress, AddOrder, SetStock}
use Rattle.shop_attempt.specs.Stocks.{StockRow}
use Rattle.shop_pricing.specs.Bounds.{AreLines}
use Rattle.shop_pricing.specs.Totals.{totals_of}
use Rattle.shop_browse.specs.Baskets.{IsBasket, HasBasket}
use Rattle.shop_order.specs.declared.new_order.Place.{Place}
use Rattle.shop_order.specs.declared.purchase.Bill.{Bill}
use Rattle.shop_order.specs.declared.purchase.Purchase.{Purchase}
use Rattle.shop_order.specs.BuyerPage.{IsPricing}
use Rattle.shop_order.specs.ShoppingCart.{AreItems}

-- the rows of a purchase are read, each as some sound tables showed it
abbrev pub IsRead : TaxRule → PurchaseAsked → List ReadOf → Type 0
IsRead tax asked reads = (c : Catalogue) × HasBasket c tax (BuyConfirm asked) reads

-- the rate of the country that was read behind the items, if it was
abbrev pub rate_of : Row → ℕ
rate_of (rows.Country country) = country.rate
rate_of _ = flat_rate

abbrev pub rate_in : List ReadOf → ℕ
rate_in [] = flat_rate
rate_in (read ∷ rest) = rate_of read.row

-- an item in a row is stocked
abbrev pub IsStockedRow : Row → Type 0
IsStockedRow (rows.Item item) = least_stock ≤ item.stock
IsStockedRow _ = Unit {0}

-- the lines of a cart, and the reads of their items
pub record AreGoods (lines : List (ℕ × ℕ)) (items : List ReadOf) : Type 0 where
  pub kept : AreLines lines
  pub items_are : AreItems lines items
  pub stocked : All (λ r. IsStockedRow r.row) items

-- the purchase that is asked for, by what was read of it
pub record IsPurchase (asked : PurchaseAsked) (reads : List ReadOf) (purchase : Purchase) : Type 0 where
  pub same : purchase.asked.now ≡ asked
  pub basket : IsBasket purchase.tax purchase.asked.now reads
  pub customer : purchase.customer.now ≡ basket.customer
  pub lines : purchase.lines.now ≡ basket.cart.lines
  pub ship : purchase.ship.now ≡ basket.ship.row
  pub items : purchase.items.now ≡ basket.items
  pub fit : IsFit basket.cart
  pub goods : AreGoods purchase.lines.now purchase.items.now
  pub rate : purchase.rate ≡ rate_in basket.rest
  pub rate_fits : purchase.rate ≤ charged_rate_limit

-- what a purchase costs
pub record IsBill (purchase : Purchase) (bill : Bill) : Type 0 where
  pub pricing : IsPricing purchase.lines.now purchase.items.now bill.priced
  pub totals : bill.totals ≡ totals_of bill.priced purchase.customer.now.discount purchase.rate

-- priced lines as those of an order, numbered from here
abbrev pub numbered : ℕ → List (ℕ × ℕ × ℕ) → List LineRow
numbered number [] = []
numbered number (line ∷ lines) =
    record { number = number; item = line.0; quantity = line.1; cost = line.2 } ∷ numbered (number + 1) lines

-- the address that an order ships to, 0 where it is new, and its country; by the text that is given and by what was read
abbrev pub place_of : Option AddressText → ℕ → Row → Place
place_of None home (rows.Address address) = record { address = home; country = address.text.country }
place_of None home _ = record { address = home; country = 0 }
place_of (Some text) home (rows.Id id) = record { address = id; country = text.country }
place_of (Some text) home _ = record { address = 0; country = text.country }

-- the use of a card, before the settle
abbrev pub card_use : CardAsked → List ℕ → ℕ → ℕ → CardUseRow
card_use payment auth total country = record {
  card = payment.card;
  number = payment.number;
  name = payment.name;
  expiry = payment.expiry;
  auth = auth;
  total = total;
  stamp = 0;
  country = country;
}

-- an order of this customer for what it is billed at a rate, before the settle
abbrev pub order_at : PurchaseAsked → CustomerRow → Bill → ℕ → List ℕ → Place → OrderRow
order_at asked customer bill rate auth place = record {
  id = 0;
  customer = customer.id;
  placed = 0;
  discount = customer.discount;
  rate = rate;
  sub = bill.totals.sub;
  tax = bill.totals.tax;
  ship = bill.totals.ship;
  total = bill.totals.total;
  ship_type = asked.ship;
  ship_day = 0;
  ship_address = place.address;
  status = Pending;
  lines = numbered 1 bill.priced;
  card = card_use asked.payment auth bill.totals.total place.country;
}

abbrev pub order_of : Purchase → Bill → List ℕ → OrderRow
order_of purchase bill auth =
    order_at purchase.asked.now purchase.customer.now bill purchase.rate auth
    (place_of purchase.asked.now.address purchase.customer.now.address purchase.ship.now)

-- the address comes, where none says the text that is given
abbrev pub ship_writes : Option AddressText → Row → List Write
ship_writes None row = []
ship_writes (Some text) (rows.Id id) = []
ship_writes (Some text) _ = AddAddress text ∷ []

-- what the sale of a line leaves of its item's stock
abbrev pub stock_left : ℕ × ℕ → ItemRow → StockRow
stock_left line item = record {
  item = line.0;
  stock = stock_after item.stock line.1;
  restocks = min (item.restocks + times_restocked item.stock line.1) restocks_limit;
}

abbrev pub stock_writes_of : ℕ × ℕ → Option ItemRow → List Write
stock_writes_of line None = []
stock_writes_of line (Some item) = SetStock (stock_left line item) ∷ []

-- the same of the item in a row
abbrev pub stock_writes_in : ℕ × ℕ → Row → List Write
stock_writes_in line (rows.Item item) = SetStock (stock_left line item) ∷ []
stock_writes_in line _ = []

-- the writes by which lines are sold
abbrev pub stock_writes : Tables → List (ℕ × ℕ) → List Write
stock_writes t lines = flat_map (λ l. stock_writes_of l (row_numbered t.items l.0)) lines

-- the writes of a purchase: the cart is emptied, the address and the order come, and the items are sold
abbrev pub purchase_writes : Tables → Purchase → OrderRow → ℕ → List Write
purchase_writes t purchase order days =
    PutCart (record { id = purchase.asked.now.cart; lines = [] })
    ∷ (ship_writes purchase.asked.now.address purchase.ship.now
    ++ AddOrder order days ∷ stock_writes t purchase.lines.now)

-- an order as its page shows it, by what a settle draws; it ships so many days later
abbrev pub drawn_order : Drawn → ℕ → OrderRow → OrderRow
drawn_order drawn days order =
    record order { id = or_zero drawn.ids.order; ship_day = day_after drawn.stamp days }
