use Rattle.std.proofs.Common.{◌≡◌}
use Rattle.shop_model.specs.population.Population as spec
use Rattle.shop_populate.proofs.countries.countries_table.Given as goal

abbrev pub invariant-loop-made : goal.invariant-loop-made
invariant-loop-made l = l.table ≡ spec.rows spec.country_row l.made
