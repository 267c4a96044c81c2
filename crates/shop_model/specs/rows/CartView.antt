use Rattle.shop_model.specs.declared.cart.Cart.TheInside.{Inside}
use Rattle.shop_model.specs.rows.Rows.{CartRow}

abbrev pub row_of : Inside → CartRow
row_of i = record { id = i.id; lines = i.lines }
