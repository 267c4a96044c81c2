-- How many rows there are before a change and after it.
use Rattle.std.specs.Prelude.{ℕ, ◌+◌, nat_lt, length, Option, Some, None, if◌then◌else◌}
use Rattle.shop_history.specs.declared.acts.Ids.{Ids}
use Rattle.shop_book.specs.declared.ids.Sizes.{Sizes}
use Rattle.shop_book.specs.declared.rows.Rows.{Rows}

abbrev pub sizes_of : Rows → Sizes
sizes_of rows = record {
  carts = length rows.carts.items;
  customers = length rows.customers.items;
  addresses = length rows.addresses.rows;
  orders = length rows.orders.items;
}

-- the id of the first row behind so many
abbrev pub id_behind : ℕ → ℕ → Option ℕ
id_behind before after = if nat_lt before after then Some (before + 1) else None

-- the ids of the first rows behind so many
abbrev pub ids_behind : Sizes → Rows → Ids
ids_behind before rows = record {
  cart = id_behind before.carts (length rows.carts.items);
  customer = id_behind before.customers (length rows.customers.items);
  address = id_behind before.addresses (length rows.addresses.rows);
  order = id_behind before.orders (length rows.orders.items);
}
