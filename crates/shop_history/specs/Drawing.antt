-- The ids of the rows that a change makes.
use Rattle.std.specs.Prelude.{ℕ, ◌+◌, nat_lt, List, length, Option, Some, None, if◌then◌else◌}
use Rattle.shop_model.specs.declared.tables.Tables.{Tables}
use Rattle.shop_history.specs.declared.acts.Ids.{Ids}

-- no new rows
abbrev pub no_ids : Ids
no_ids = record { cart = None; customer = None; address = None; order = None }

-- the id of the first row that came, if one did
abbrev pub new_id : {Row : Type 0} → List Row → List Row → Option ℕ
new_id before after = if nat_lt (length before) (length after) then Some (length before + 1) else None

-- the ids of the rows by which tables grew
abbrev pub new_ids : Tables → Tables → Ids
new_ids before after = record {
  cart = new_id before.carts after.carts;
  customer = new_id before.customers after.customers;
  address = new_id before.addresses after.addresses;
  order = new_id before.orders after.orders;
}
