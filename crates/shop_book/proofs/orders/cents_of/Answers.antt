use Rattle.std.proofs.Common.{◌≡◌, ◌+◌, ◌≤◌, take, get_or, sum_by, sym, ◌∙◌, ap, subst, arith}
use Rattle.std.proofs.lemmas.List.Sums.{sum_by_more}
use Rattle.shop_model.specs.rows.Rows.{OrderRow}
use Rattle.shop_book.specs.Summaries.{charge_limit}
use Rattle.shop_book.proofs.orders.cents_of.Goals as goal

total_is : (c : goal.After-behind-order) → c.behind-order.inside.total ≡ (get_or c.args.orders.now c.loop-order.order-index c.order-item.result).total
total_is c = ap (λ (o : OrderRow). o.total) (c.behind-order.view_is ∙ c.get.ensures ∙ c.order-item.is)

low : (c : goal.After-behind-order) → c.behind-order.inside.total ≤ charge_limit
low c = subst (λ n. n ≤ charge_limit) (sym (total_is c)) (c.requires.charges c.loop-order.order-index c.order-item.result c.loop-order-test.true)

pub overflow_add-cents : goal.overflow_add-cents
overflow_add-cents c = omega (arith, low c, c.loop-order.invariant.few, c.loop-order-test.true, c.requires.few)

pub loop-order-preserved : goal.loop-order-preserved
loop-order-preserved c = record {
  cents =
      ap (λ n. n + c.behind-order.inside.total) c.loop-order.invariant.cents
      ∙ ap (λ n. sum_by (λ (o : OrderRow). o.total) (take c.loop-order.order-index c.args.orders.now) + n) (total_is c)
      ∙ sym (sum_by_more (λ (o : OrderRow). o.total) c.args.orders.now c.loop-order.order-index c.order-item.result c.loop-order-test.true);
  few = omega (arith, low c, c.loop-order.invariant.few);
}
