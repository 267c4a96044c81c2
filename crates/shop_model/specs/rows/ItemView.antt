use Rattle.shop_model.specs.declared.item.Item.TheInside.{Inside}
use Rattle.shop_model.specs.rows.Rows.{ItemRow}

abbrev pub row_of : Inside → ItemRow
row_of i = record {
  id = i.id;
  title = i.details.title;
  author = i.details.author;
  subject = i.details.subject;
  published = i.published;
  publisher = i.details.publisher;
  about = i.details.about;
  related = i.details.related;
  thumb = i.details.thumb;
  image = i.details.image;
  srp = i.details.srp;
  cost = i.details.cost;
  stock = i.stock;
  restocks = i.restocks;
  first_stock = i.details.first_stock;
  pages = i.details.pages;
  backing = i.details.backing;
}
