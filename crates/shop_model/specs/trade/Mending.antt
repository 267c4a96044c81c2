-- What the administration of an item makes of the tables; this project's own after the TPC-W specification's Admin Confirm.
use Rattle.std.specs.Prelude.{ℕ, ◌-◌, Option, Some, None, slice_set}
use Rattle.shop_model.specs.declared.tables.Tables.{Tables}
use Rattle.shop_model.specs.asked.AdminAsked.{AdminAsked}
use Rattle.shop_model.specs.lists.Related.{related}
use Rattle.shop_model.specs.rows.Limits.{day_of}
use Rattle.shop_model.specs.rows.Lookups.{row_numbered}
use Rattle.shop_model.specs.rows.Rows.{ItemRow}

-- an item as it is asked for, published on the day of the stamp, with the items that are related to it now
abbrev pub mended_item : Tables → ℕ → AdminAsked → ItemRow → ItemRow
mended_item t stamp asked item = record item {
  published = day_of stamp;
  related = related t asked.item;
  thumb = asked.thumb;
  image = asked.image;
  cost = asked.cost;
}

-- the tables with that item
abbrev pub with_mended : Tables → ℕ → AdminAsked → Option ItemRow → Tables
with_mended t stamp asked None = t
with_mended t stamp asked (Some item) = record t { items = slice_set t.items (asked.item - 1) (mended_item t stamp asked item) }

-- the tables after the item was administered
abbrev pub tables_mended : Tables → ℕ → AdminAsked → Tables
tables_mended t stamp asked = with_mended t stamp asked (row_numbered t.items asked.item)
