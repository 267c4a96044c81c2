use Rattle.shop_model.specs.declared.line.Line.TheInside.{Inside}
use Rattle.shop_model.specs.rows.Rows.{LineRow}

abbrev pub row_of : Inside → LineRow
row_of i = record {
  number = i.number;
  item = i.item;
  quantity = i.quantity;
  cost = i.cost;
}
