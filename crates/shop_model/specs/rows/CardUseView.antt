use Rattle.shop_model.specs.declared.card_use.CardUse.TheInside.{Inside}
use Rattle.shop_model.specs.rows.Rows.{CardUseRow}

abbrev pub row_of : Inside → CardUseRow
row_of i = record {
  card = i.card;
  number = i.number;
  name = i.name;
  expiry = i.expiry;
  auth = i.auth;
  total = i.total;
  stamp = i.stamp;
  country = i.country;
}
