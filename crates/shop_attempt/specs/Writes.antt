-- What writes make of the tables, one after another; the settle fills in ids, stamps, days and names.
use Rattle.std.specs.Prelude.{ℕ, ◌+◌, ◌-◌, ◌==◌, min, List, [], ◌∷◌, ◌++◌, length, Some, None, slice_set, if◌then◌else◌}
use Rattle.shop_text.specs.Texts.{digsyl, digsyl_lower}
use Rattle.shop_model.specs.declared.tables.Tables.{Tables}
use Rattle.shop_model.specs.rows.Limits.{session_time, day_of, day_limit}
use Rattle.shop_model.specs.rows.Rows.{CustomerRow, OrderRow}
use Rattle.shop_model.specs.trade.Buyers.{changed_at, logged_in}
use Rattle.shop_attempt.specs.declared.attempts.Write.{Write}
use Rattle.shop_attempt.specs.declared.attempts.Write.TheVariants.{PutCart, Login, AddAddress, AddCustomer, AddOrder, SetStock, PutItem}

-- a row made for its place; where its id is 0, a new one with the next id
abbrev pub put_row : {Row : Type 0} → List Row → ℕ → (ℕ → Row) → List Row
put_row rows id make =
    if id == 0 then rows ++ make (length rows + 1) ∷ [] else slice_set rows (id - 1) (make id)

-- an id, or, where it is 0, the last one that was drawn
abbrev pub or_last : ℕ → ℕ → ℕ
or_last id last = if id == 0 then last else id

-- a new customer: the next id, the names that go with it, the address just made where none is named, and logged in
abbrev pub entered : Tables → ℕ → CustomerRow → CustomerRow
entered t stamp customer = record customer {
  id = length t.customers + 1;
  user = digsyl (length t.customers + 1);
  password = digsyl_lower (length t.customers + 1);
  address = or_last customer.address (length t.addresses);
  login = stamp;
  expiry = stamp + session_time;
}

-- a new order: the next id, placed and paid at the stamp, shipped so many days later, to the address just made where none is named
abbrev pub placed : Tables → ℕ → ℕ → OrderRow → OrderRow
placed t stamp days order = record order {
  id = length t.orders + 1;
  placed = stamp;
  ship_day = min (day_of stamp + days) day_limit;
  ship_address = or_last order.ship_address (length t.addresses);
  card = record order.card { stamp = stamp };
}

-- the tables after a write at a stamp
abbrev pub written_one : Tables → ℕ → Write → Tables
written_one t stamp (PutCart cart) =
    record t { carts = put_row t.carts cart.id (λ id. record cart { id = id }) }
written_one t stamp (Login id) = record t { customers = changed_at t.customers id (logged_in stamp) }
written_one t stamp (AddAddress text) =
    record t { addresses = t.addresses ++ record { id = length t.addresses + 1; text = text } ∷ [] }
written_one t stamp (AddCustomer customer) = record t {
  customers = t.customers ++ entered t stamp customer ∷ [];
  last = t.last ++ None ∷ [];
}
written_one t stamp (AddOrder order days) = record t {
  orders = t.orders ++ placed t stamp days order ∷ [];
  last = slice_set t.last (order.customer - 1) (Some (length t.orders + 1));
}
written_one t stamp (SetStock stock) = record t {
  items = changed_at t.items stock.item (λ item. record item { stock = stock.stock; restocks = stock.restocks });
}
written_one t stamp (PutItem item) =
    record t { items = put_row t.items item.id (λ id. record item { id = id; published = day_of stamp }) }

-- the tables after writes at a stamp, one after another
abbrev pub written : Tables → ℕ → List Write → Tables
written t stamp [] = t
written t stamp (write ∷ writes) = written (written_one t stamp write) stamp writes
