use Rattle.std.proofs.Common.{◌≡◌, ◌∙◌, ap, arith}
use Rattle.shop_model.specs.population.Population as spec
use Rattle.shop_populate.proofs.countries.countries_table.Goals as goal

pub returns : goal.returns
unfolding spec.countries_table
returns c =
    let all : c.loop-made.made ≡ 92 = omega arith in
    c.loop-made.invariant ∙ ap (λ n. spec.rows spec.country_row n) all
