use Rattle.shop_model.specs.declared.country.Country.TheInside.{Inside}
use Rattle.shop_model.specs.rows.Rows.{CountryRow}

abbrev pub row_of : Inside → CountryRow
row_of i = record { id = i.id; name = i.name; rate = i.rate }
