use Rattle.std.proofs.Common.{◌*◌, ◌∙◌, ap, sym, arith}
use Rattle.shop_attempt.specs.declared.attempts.ReadOf.{ReadOf}
use Rattle.shop_order.specs.Table.{cost_in}
use Rattle.shop_order.proofs.TableLemmas.{line_at, sum_more}
use Rattle.shop_order.proofs.table.sum.Goals as goal

pub loop-place-preserved : goal.loop-place-preserved
loop-place-preserved c = record {
  bound = omega (arith, c.loop-place.invariant.bound, c.line_cost-sum.ensures.most);
  sum_is =
      sum_more c.args.lines.now c.args.items.now c.loop-place.place c.index-items-place.result c.requires.items c.loop-place-test.true c.index-items-place.is c.loop-place.sum c.line_cost-sum.result
      (c.line_cost-sum.ensures.value ∙ ap (λ (r : ReadOf). cost_in r.row * (line_at c.args.lines.now c.loop-place.place).1) (sym c.index-items-place.is))
      c.loop-place.invariant.sum_is;
}
