-- Tables without rows.
use Rattle.std.specs.Prelude.{[]}
use Rattle.shop_model.specs.declared.tables.Tables.{Tables}

-- where a record has tables, and there are none to speak of
abbrev pub no_tables : Tables
no_tables = record {
  countries = [];
  addresses = [];
  customers = [];
  authors = [];
  items = [];
  orders = [];
  carts = [];
  born_orders = 0;
  born_items = 0;
  last = [];
}
