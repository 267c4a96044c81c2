use Rattle.std.proofs.Common.{◌≡◌}
use Rattle.shop_model.specs.population.Population as spec
use Rattle.shop_populate.proofs.items.items_table.Given as goal

abbrev pub invariant-loop-made : goal.invariant-loop-made
invariant-loop-made l = l.table ≡ spec.rows (spec.item_row l.seed l.scale) l.made
