use Rattle.std.proofs.Common.{◌≡◌, length, map, take, All}
use Rattle.shop_model.specs.declared.tables.Tables.{Tables}
use Rattle.shop_attempt.specs.Reads.{Shows}
use Rattle.shop_pricing.specs.Totals.{IsPriced}
use Rattle.shop_order.specs.BuyerPage.{priced_line}
use Rattle.shop_order.proofs.buyer_page.priced.Given as goal

-- the lines so far, at what they cost in tables that show the items
abbrev pub invariant-loop-place : goal.invariant-loop-place
invariant-loop-place l = record {
  many : length l.priced ≡ l.place;
  bounded : All IsPriced l.priced;
  are : (t : Tables) → Shows t l.items → l.priced ≡ map (priced_line t) (take l.place l.lines);
}
