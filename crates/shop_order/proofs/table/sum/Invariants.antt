use Rattle.std.proofs.Common.{◌≡◌, ◌≤◌, ◌*◌, take}
use Rattle.std.specs.List.{sum_by}
use Rattle.shop_model.specs.declared.tables.Tables.{Tables}
use Rattle.shop_model.specs.pages.ShoppingCart.{line_cost}
use Rattle.shop_attempt.specs.Reads.{Shows}
use Rattle.shop_order.proofs.table.sum.Given as goal

-- the sum so far is that in tables that show the items
abbrev pub invariant-loop-place : goal.invariant-loop-place
invariant-loop-place l = record {
  bound : l.sum ≤ l.place * 998_999_001;
  sum_is : (t : Tables) → Shows t l.items → l.sum ≡ sum_by (line_cost t) (take l.place l.lines);
}
