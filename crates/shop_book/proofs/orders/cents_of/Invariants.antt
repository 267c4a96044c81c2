use Rattle.std.proofs.Common.{◌≡◌, ◌*◌, ◌≤◌, take}
use Rattle.std.specs.List.{sum_by}
use Rattle.shop_book.specs.Summaries.{charge_limit}
use Rattle.shop_book.proofs.orders.cents_of.Given as goal

-- what the first orders were charged, and its bound
abbrev pub invariant-loop-order : goal.invariant-loop-order
invariant-loop-order l = record {
  cents : l.cents ≡ sum_by (λ o. o.total) (take l.order-index l.orders);
  few : l.cents ≤ charge_limit * l.order-index;
}
