-- The bounds of the numbers in rows, all this project's own.
use Rattle.std.specs.Prelude.{ℕ, ◌/◌, ◌^◌}

-- a discount, in per cent
abbrev pub discount_limit : ℕ
discount_limit = 50

-- the rate of a country's tax, in hundredths of a per cent
abbrev pub rate_limit : ℕ
rate_limit = 1_000

-- the rate that an order was charged
abbrev pub charged_rate_limit : ℕ
charged_rate_limit = 10_000

-- the price of one unit, in cents
abbrev pub price_limit : ℕ
price_limit = 999_999

-- the units of one line
abbrev pub quantity_limit : ℕ
quantity_limit = 999

-- the lines of an order or a cart
abbrev pub lines_limit : ℕ
lines_limit = 100

-- the items of a list that is shown
abbrev pub list_limit : ℕ
list_limit = 50

-- the latest orders that best sellers are counted over
abbrev pub counted_orders : ℕ
counted_orders = 3_333

-- the latest orders that related items are counted over
abbrev pub recent_orders : ℕ
recent_orders = 10_000

-- the quantities that one request for the cart sets
abbrev pub sets_limit : ℕ
sets_limit = 100

-- the bytes of a parameter that is a text
abbrev pub text_limit : ℕ
text_limit = 100

-- the items of a shop that takes one more
abbrev pub items_limit : ℕ
items_limit = 10_000

-- the units in stock
abbrev pub stock_limit : ℕ
stock_limit = 1_000_000

-- the units that an item may be added with, from the least that are left after a sale
abbrev pub added_stock_limit : ℕ
added_stock_limit = 1_000

-- the pages that it may have
abbrev pub pages_limit : ℕ
pages_limit = 9_999

-- how often an item was restocked
abbrev pub restocks_limit : ℕ
restocks_limit = 2 ^ 60

-- a day since 1970-01-01: 9999-12-31
abbrev pub day_limit : ℕ
day_limit = 2_932_896

-- a moment in milliseconds since 1970-01-01: the last one of 9999-12-31
abbrev pub stamp_limit : ℕ
stamp_limit = 253_402_300_799_999

-- how long a session lasts after its login, in milliseconds
abbrev pub session_time : ℕ
session_time = 7_200_000

-- how long a day lasts, in milliseconds
abbrev pub day_length : ℕ
day_length = 86_400_000

-- the day of a moment, since 1970-01-01
abbrev pub day_of : ℕ → ℕ
day_of stamp = stamp / day_length
