use Rattle.shop_model.specs.declared.scale.Scale.TheInside.{Inside}
use Rattle.shop_model.specs.population.Scales.{ScaleRow}

abbrev pub row_of : Inside → ScaleRow
row_of i = record {
  items = i.items;
  authors = i.authors;
  customers = i.customers;
  addresses = i.addresses;
  orders = i.orders;
}

abbrev pub fields_of : ScaleRow → Inside
fields_of s = record {
  items = s.items;
  authors = s.authors;
  customers = s.customers;
  addresses = s.addresses;
  orders = s.orders;
}
