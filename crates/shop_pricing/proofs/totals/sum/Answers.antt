use Rattle.std.proofs.Common.{ℕ, ◌*◌, arith}
use Rattle.std.proofs.lemmas.List.Sums.{sum_by_more_le}
use Rattle.shop_pricing.proofs.Bounds.{sum_bound}
use Rattle.shop_pricing.proofs.totals.sum.Goals as goal

pub overflow_add-sum : goal.overflow_add-sum
overflow_add-sum c =
    let whole = sum_bound c.args.lines.now c.requires in
    let so_far = sum_by_more_le (λ (l : ℕ × ℕ × ℕ). l.2 * l.1) c.args.lines.now c.loop-line.line-index (0, 0, 0) c.loop-line-test.true in
    omega (arith, whole, so_far)
