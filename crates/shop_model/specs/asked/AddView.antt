use Rattle.shop_model.specs.declared.administration.AdminAdd.TheInside.{Inside}
use Rattle.shop_model.specs.asked.AddAsked.{AddAsked}

abbrev pub asked_of : Inside → AddAsked
asked_of i = record {
  title = i.title;
  author = i.author;
  subject = i.subject;
  publisher = i.publisher;
  about = i.about;
  image = i.image;
  thumb = i.thumb;
  srp = i.srp;
  cost = i.cost;
  stock = i.stock;
  pages = i.pages;
  backing = i.backing;
  ids = i.ids;
}
