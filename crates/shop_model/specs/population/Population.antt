-- The rows that the shop opens with, each from its id and its own drawn words; this project's own.
-- A name w3 stands for word 3 of the row.
use Rattle.std.specs.Prelude.{ℕ, ◌+◌, ◌-◌, ◌*◌, ◌/◌, ◌%◌, List, [], ◌∷◌, ◌++◌, map, codes, decimal, Option}
use Rattle.std.specs.List.{range_with_len}
use Rattle.shop_text.specs.Texts.{digsyl, digsyl_lower}
use Rattle.shop_model.specs.declared.address.Address.{Address}
use Rattle.shop_model.specs.declared.author.Author.{Author}
use Rattle.shop_model.specs.declared.tables.Tables.{Tables}
use Rattle.shop_model.specs.declared.subject.Subject.TheVariants.{Arts}
use Rattle.shop_model.specs.declared.backing.Backing.TheVariants.{Hardback}
use Rattle.shop_model.specs.declared.card_type.CardType.TheVariants.{Visa}
use Rattle.shop_model.specs.declared.ship_type.ShipType.TheVariants.{Air}
use Rattle.shop_model.specs.declared.order_state.OrderState.TheVariants.{Processing}
use Rattle.shop_model.specs.rows.Rows.{CountryRow, CustomerRow, ItemRow, LineRow, CardUseRow, OrderRow}
use Rattle.shop_model.specs.population.Scales.{ScaleRow}
use Rattle.shop_model.specs.rows.Subjects.{subjects, backings, card_types, ship_types, order_states}
use Rattle.shop_model.specs.rows.AuthIds.{auth_id}
use Rattle.shop_model.specs.trade.Money.{Money, totals}
use Rattle.shop_model.specs.rows.Sound.{last_of}
use Rattle.shop_model.specs.population.Words.{word, entry, adjectives, nouns, first_names, last_names, publishers}

-- countries draw no words

unfoldable pub country_name : ℕ → List ℕ
country_name r = codes "Country " ++ digsyl r

-- the rate of its tax, up to ten per cent
unfoldable pub country_rate : ℕ → ℕ
country_rate r = 25 * (r % 41)

unfoldable pub country_row : ℕ → CountryRow
country_row r = record { id = r; name = country_name r; rate = country_rate r }

-- addresses, which draw from table 2

unfoldable pub street : ℕ → ℕ → List ℕ
street w0 w1 =
    decimal (1 + w0 % 200) ++ codes " " ++ entry [] nouns w1 ++ codes " Street"

unfoldable pub city : ℕ → List ℕ
city w2 = entry [] last_names w2 ++ codes "ton"

unfoldable pub zip : ℕ → List ℕ
zip w4 = decimal (10_000 + w4 % 90_000)

unfoldable pub address_row : ℕ → ScaleRow → ℕ → Address
address_row seed scale r =
    let w : ℕ → ℕ = word seed scale 2 r in
    record {
      id = r;
      text = record {
        street1 = street (w 0) (w 1);
        street2 = [];
        city = city (w 2);
        state = entry [] adjectives (w 3);
        zip = zip (w 4);
        country = 1 + w 5 % 92;
      };
    }

-- customers, who draw from table 3; the password is the user name in small letters

unfoldable pub phone : ℕ → List ℕ
phone w4 = decimal (2_000_000_000 + w4 % 1_000_000_000)

unfoldable pub email : ℕ → List ℕ
email r = digsyl_lower r ++ codes "@shop.example"

unfoldable pub customer_row : ℕ → ScaleRow → ℕ → CustomerRow
customer_row seed scale r =
    let w : ℕ → ℕ = word seed scale 3 r in
    record {
      id = r;
      user = digsyl r;
      password = digsyl_lower r;
      first = entry [] first_names (w 0);
      last = entry [] last_names (w 1);
      address = 1 + w 2 % scale.addresses;
      discount = w 3 % 51;
      phone = phone (w 4);
      email = email r;
      login = 0;
      expiry = 0;
    }

-- authors, who draw from table 4

unfoldable pub author_row : ℕ → ScaleRow → ℕ → Author
author_row seed scale r =
    let w : ℕ → ℕ = word seed scale 4 r in
    record { id = r; first = entry [] first_names (w 0); last = entry [] last_names (w 1) }

-- items, which draw from table 5

-- the items that follow r in cyclic order
unfoldable pub followers : ℕ → ℕ → List ℕ
followers items r =
    (1 + r % items)
    ∷ (1 + (r + 1) % items)
    ∷ (1 + (r + 2) % items)
    ∷ (1 + (r + 3) % items)
    ∷ (1 + (r + 4) % items)
    ∷ []

unfoldable pub title : ℕ → ℕ → ℕ → List ℕ
title w0 w1 r =
    entry [] adjectives w0 ++ codes " " ++ entry [] nouns w1 ++ codes " " ++ digsyl r

unfoldable pub about : ℕ → ℕ → List ℕ
about w10 w11 =
    codes "About a " ++ entry [] adjectives w10 ++ codes " " ++ entry [] nouns w11 ++ codes "."

-- the link to a picture of item r
unfoldable pub picture : List ℕ → ℕ → List ℕ
picture front r = front ++ decimal r ++ codes ".gif"

-- the suggested price, and the shop's own, up to 50 per cent below
unfoldable pub srp : ℕ → ℕ
srp w5 = 100 + w5 % 9900

unfoldable pub cost : ℕ → ℕ → ℕ
cost w5 w6 = srp w5 * (100 - w6 % 51) / 100

-- what there is in stock, 10 to 30 units
unfoldable pub stock : ℕ → ℕ
stock w7 = 10 + w7 % 21

unfoldable pub item_row : ℕ → ScaleRow → ℕ → ItemRow
item_row seed scale r =
    let w : ℕ → ℕ = word seed scale 5 r in
    record {
      id = r;
      title = title (w 0) (w 1) r;
      author = 1 + (r - 1) % scale.authors;
      subject = entry Arts subjects (w 2);
      published = 3652 + w 3 % 9000;
      publisher = entry [] publishers (w 4);
      about = about (w 10) (w 11);
      related = followers scale.items r;
      thumb = picture (codes "/img/thumb_") r;
      image = picture (codes "/img/image_") r;
      srp = srp (w 5);
      cost = cost (w 5) (w 6);
      stock = stock (w 7);
      restocks = 0;
      first_stock = stock (w 7);
      pages = 20 + w 8 % 9980;
      backing = entry Hardback backings (w 9);
    }

-- orders, which draw from table 6

abbrev pub order_word : ℕ → ScaleRow → ℕ → ℕ → ℕ
order_word seed scale r j = word seed scale 6 r j

-- whose order it is, and the address of this customer
unfoldable pub order_customer : ℕ → ScaleRow → ℕ → CustomerRow
order_customer seed scale r = customer_row seed scale (1 + order_word seed scale r 0 % scale.customers)

unfoldable pub order_address : ℕ → ScaleRow → ℕ → Address
order_address seed scale r = address_row seed scale (order_customer seed scale r).address

-- how many lines
unfoldable pub size : ℕ → ℕ
size w1 = 1 + w1 % 5

-- the moment of the order, at the start of one of 60 days from 2000-02-13, and the day of shipping
unfoldable pub placed : ℕ → ℕ
placed w3 = (11_000 + w3 % 60) * 86_400_000

unfoldable pub ship_day : ℕ → ℕ → ℕ
ship_day w3 w5 = 11_000 + w3 % 60 + (1 + w5 % 7)

-- the item and the quantity of line k
unfoldable pub line_item : ScaleRow → ℕ → ℕ → ℕ
line_item scale w2 k = 1 + (w2 + 17 * (k - 1)) % scale.items

unfoldable pub line_quantity : ℕ → ℕ → ℕ
line_quantity w4 k = 1 + (w4 + k) % 5

-- line k, at the populated cost of its item
unfoldable pub order_line : ℕ → ScaleRow → ℕ → ℕ → ℕ → LineRow
order_line seed scale w2 w4 k = record {
  number = k;
  item = line_item scale w2 k;
  quantity = line_quantity w4 k;
  cost = (item_row seed scale (line_item scale w2 k)).cost;
}

unfoldable pub order_lines : ℕ → ScaleRow → ℕ → List LineRow
order_lines seed scale r =
    let w : ℕ → ℕ = word seed scale 6 r in
    map (order_line seed scale (w 2) (w 4)) (range_with_len 1 (size (w 1)))

unfoldable pub card_number : ℕ → ℕ
card_number r = 4_000_000_000_000_000 + r

unfoldable pub card_name : CustomerRow → List ℕ
card_name customer = customer.first ++ codes " " ++ customer.last

-- the payment of order r: the call r of caller 0
unfoldable pub card_of : CustomerRow → Address → ℕ → ℕ → ℕ → ℕ → CardUseRow
card_of customer address total r w3 w6 = record {
  card = entry Visa card_types w6;
  number = decimal (card_number r);
  name = card_name customer;
  expiry = codes "2030-01";
  auth = auth_id (card_number r) total r 0;
  total = total;
  stamp = placed w3;
  country = address.text.country;
}

-- order r of a customer to an address, at the rate of its country
unfoldable pub order_of : CustomerRow → Address → List LineRow → ℕ → ℕ → ℕ → ℕ → ℕ → ℕ → OrderRow
order_of customer address lines r w3 w5 w6 w7 w8 =
    let money : Money = totals lines customer.discount (country_rate address.text.country) in
    record {
      id = r;
      customer = customer.id;
      placed = placed w3;
      discount = customer.discount;
      rate = country_rate address.text.country;
      sub = money.sub;
      tax = money.tax;
      ship = money.ship;
      total = money.total;
      ship_type = entry Air ship_types w8;
      ship_day = ship_day w3 w5;
      ship_address = customer.address;
      status = entry Processing order_states w7;
      lines = lines;
      card = card_of customer address money.total r w3 w6;
    }

unfoldable pub order_row : ℕ → ScaleRow → ℕ → OrderRow
order_row seed scale r =
    let w : ℕ → ℕ = word seed scale 6 r in
    order_of
    (order_customer seed scale r)
    (order_address seed scale r)
    (order_lines seed scale r)
    r
    (w 3)
    (w 5)
    (w 6)
    (w 7)
    (w 8)

-- the tables: rows whose ids run from 1

abbrev pub rows : {A : Type 0} → (ℕ → A) → ℕ → List A
rows row size = map row (range_with_len 1 size)

unfoldable pub countries_table : List CountryRow
countries_table = rows country_row 92

unfoldable pub addresses_table : ℕ → ScaleRow → List Address
addresses_table seed scale = rows (address_row seed scale) scale.addresses

unfoldable pub customers_table : ℕ → ScaleRow → List CustomerRow
customers_table seed scale = rows (customer_row seed scale) scale.customers

unfoldable pub authors_table : ℕ → ScaleRow → List Author
authors_table seed scale = rows (author_row seed scale) scale.authors

unfoldable pub items_table : ℕ → ScaleRow → List ItemRow
items_table seed scale = rows (item_row seed scale) scale.items

unfoldable pub orders_table : ℕ → ScaleRow → List OrderRow
orders_table seed scale = rows (order_row seed scale) scale.orders

unfoldable pub lasts_table : ℕ → ScaleRow → List (Option ℕ)
lasts_table seed scale = rows (last_of (orders_table seed scale)) scale.customers

-- the shop at its opening: no carts, and each order is populated
unfoldable pub populated : ℕ → ScaleRow → Tables
populated seed scale = record {
  countries = countries_table;
  addresses = addresses_table seed scale;
  customers = customers_table seed scale;
  authors = authors_table seed scale;
  items = items_table seed scale;
  orders = orders_table seed scale;
  carts = [];
  born_orders = scale.orders;
  born_items = scale.items;
  last = lasts_table seed scale;
}
