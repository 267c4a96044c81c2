-- Admin Add: the item that it adds.
use Rattle.std.specs.Prelude.{[], ◌∷◌}
use Rattle.shop_model.specs.asked.AddAsked.{AddAsked}
use Rattle.shop_model.specs.rows.Rows.{ItemRow}

-- the item as it is asked for; the settle gives it its id and publishes it
abbrev pub added_row : AddAsked → ItemRow
added_row asked = record {
  id = 0;
  title = asked.title;
  author = asked.author;
  subject = asked.subject;
  published = 0;
  publisher = asked.publisher;
  about = asked.about;
  related = 1 ∷ 2 ∷ 3 ∷ 4 ∷ 5 ∷ [];
  thumb = asked.thumb;
  image = asked.image;
  srp = asked.srp;
  cost = asked.cost;
  stock = asked.stock;
  restocks = 0;
  first_stock = asked.stock;
  pages = asked.pages;
  backing = asked.backing;
}
