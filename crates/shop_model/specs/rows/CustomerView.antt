use Rattle.shop_text.specs.Texts.{digsyl, digsyl_lower}
use Rattle.shop_model.specs.declared.customer.Customer.TheInside.{Inside}
use Rattle.shop_model.specs.rows.Rows.{CustomerRow}

abbrev pub row_of : Inside → CustomerRow
row_of i = record {
  id = i.id;
  user = digsyl i.id;
  password = digsyl_lower i.id;
  first = i.details.first;
  last = i.details.last;
  address = i.address;
  discount = i.details.discount;
  phone = i.details.phone;
  email = i.details.email;
  login = i.login;
  expiry = i.expiry;
}
