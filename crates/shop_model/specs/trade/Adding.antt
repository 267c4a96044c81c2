-- What the tables are with one more item; this project's own.
use Rattle.std.specs.Prelude.{ℕ, ◌+◌, nat_lt, [], ◌∷◌, ◌++◌, length, Option, Some, None, if◌then◌else◌}
use Rattle.shop_model.specs.declared.author.Author.{Author}
use Rattle.shop_model.specs.declared.refusal.Refusal.{Refusal}
use Rattle.shop_model.specs.declared.refusal.Refusal.TheVariants.{NoAuthor, FullShop}
use Rattle.shop_model.specs.declared.tables.Tables.{Tables}
use Rattle.shop_model.specs.asked.AddAsked.{AddAsked}
use Rattle.shop_model.specs.rows.Limits.{day_of, items_limit}
use Rattle.shop_model.specs.rows.Lookups.{row_numbered}
use Rattle.shop_model.specs.rows.Rows.{ItemRow}
use Rattle.shop_model.specs.trade.Carts.{first_of}

-- why an item has no author: the one that is named is not there
abbrev pub check_author : Option Author → Option Refusal
check_author None = Some NoAuthor
check_author (Some author) = None

-- why a shop of so many items takes no more
abbrev pub check_room : ℕ → Option Refusal
check_room items = if nat_lt items items_limit then None else Some FullShop

-- why an item is not added: the author is looked at first, then the room
abbrev pub check_add : Tables → AddAsked → Option Refusal
check_add t asked = first_of (check_author (row_numbered t.authors asked.author)) (check_room (length t.items))

-- the item that is asked for, published on the day of the stamp, with the first five items related to it
abbrev pub added_item : Tables → ℕ → AddAsked → ItemRow
added_item t stamp asked = record {
  id = length t.items + 1;
  title = asked.title;
  author = asked.author;
  subject = asked.subject;
  published = day_of stamp;
  publisher = asked.publisher;
  about = asked.about;
  related = 1 ∷ 2 ∷ 3 ∷ 4 ∷ 5 ∷ [];
  thumb = asked.thumb;
  image = asked.image;
  srp = asked.srp;
  cost = asked.cost;
  stock = asked.stock;
  restocks = 0;
  first_stock = asked.stock;
  pages = asked.pages;
  backing = asked.backing;
}

-- the tables with this item behind the others
abbrev pub with_item : Tables → ItemRow → Tables
with_item t item = record t { items = t.items ++ item ∷ [] }

-- the tables after an item was added
abbrev pub tables_added : Tables → ℕ → AddAsked → Tables
tables_added t stamp asked = with_item t (added_item t stamp asked)
