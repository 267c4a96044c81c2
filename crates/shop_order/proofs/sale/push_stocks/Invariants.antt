use Rattle.std.proofs.Common.{◌≡◌, ◌++◌, take}
use Rattle.shop_model.specs.declared.tables.Tables.{Tables}
use Rattle.shop_attempt.specs.Reads.{Shows}
use Rattle.shop_order.specs.Purchases.{stock_writes}
use Rattle.shop_order.proofs.sale.push_stocks.Given as goal

-- the writes so far are of the lines so far
abbrev pub invariant-loop-place : goal.invariant-loop-place
invariant-loop-place l = (t : Tables) → Shows t l.items → l.writes ≡ l.initial.writes ++ stock_writes t (take l.place l.lines)
