use Rattle.shop_attempt.specs.declared.stock.Stock.TheInside.{Inside}
use Rattle.shop_attempt.specs.Stocks.{StockRow}

abbrev pub row_of : Inside → StockRow
row_of i = record { item = i.item; stock = i.stock; restocks = i.restocks }
