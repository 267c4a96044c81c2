use Rattle.shop_model.specs.declared.order.Order.TheInside.{Inside}
use Rattle.shop_model.specs.rows.Rows.{OrderRow}

abbrev pub row_of : Inside → OrderRow
row_of i = record {
  id = i.id;
  customer = i.customer;
  placed = i.placed;
  discount = i.discount;
  rate = i.rate;
  sub = i.sub;
  tax = i.tax;
  ship = i.ship;
  total = i.total;
  ship_type = i.ship_type;
  ship_day = i.ship_day;
  ship_address = i.ship_address;
  status = i.status;
  lines = i.lines;
  card = i.card;
}
