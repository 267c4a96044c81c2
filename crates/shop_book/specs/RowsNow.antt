-- The rows as they are now, and the room for more of them.
use Rattle.std.specs.Prelude.{◌≡◌, ℕ, ◌+◌, ◌≤◌, Vec, vec_len, vec_capacity}
use Rattle.shop_model.specs.declared.tables.Tables.{Tables}
use Rattle.shop_book.specs.declared.rows.Rows.{Rows}

-- the tables in which these are the rows that writes change
abbrev pub tables_with : Tables → Rows → Tables
tables_with t rows = record t {
  items = rows.items.items;
  customers = rows.customers.items;
  last = rows.last.items;
  carts = rows.carts.items;
  addresses = rows.addresses.rows;
  orders = rows.orders.items;
}

-- so many rows more come into each table without memory
pub record HasRoom (rows : Rows) (more : ℕ) : Type 0 where
  pub items : vec_len rows.items + more ≤ vec_capacity rows.items
  pub customers : vec_len rows.customers + more ≤ vec_capacity rows.customers
  pub last : vec_len rows.last + more ≤ vec_capacity rows.last
  pub carts : vec_len rows.carts + more ≤ vec_capacity rows.carts
  pub addresses : more ≤ rows.addresses.room
  pub orders : vec_len rows.orders + more ≤ vec_capacity rows.orders

-- no memory is taken for a list, which has one row more at most
pub record KeepsRoom {Row Memory : Type 0} (old new : Vec Row Memory) : Type 0 where
  pub capacity : vec_capacity new ≡ vec_capacity old
  pub one : vec_len new ≤ vec_len old + 1

-- where there was room for one row more in each table, the rest of it is left
abbrev pub TakesOne : Rows → Rows → Type 0
TakesOne old new = (more : ℕ) → HasRoom old (more + 1) → HasRoom new more
