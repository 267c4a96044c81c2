use Rattle.std.proofs.Common.{◌≡◌}
use Rattle.shop_model.specs.population.Population as spec
use Rattle.shop_populate.proofs.lines.order_lines.Given as goal

abbrev pub invariant-loop-made : goal.invariant-loop-made
invariant-loop-made l = l.lines ≡ spec.rows (spec.order_line l.seed l.scale l.item_word l.quantity_word) l.made
