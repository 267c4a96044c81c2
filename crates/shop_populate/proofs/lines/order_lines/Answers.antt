use Rattle.std.proofs.Common.{◌≡◌, ◌∙◌, ap, arith, length}
use Rattle.std.proofs.lemmas.List.FromFn.{length-map-range_with_len}
use Rattle.shop_populate.proofs.lines.order_lines.Goals as goal

pub returns-clause-size : goal.returns-clause-size
returns-clause-size c =
    let all : c.loop-made.made ≡ c.args.size = omega arith in
    ap length c.loop-made.invariant ∙ length-map-range_with_len _ 1 c.loop-made.made ∙ all
