use Rattle.shop_model.specs.population.Population as spec
use Rattle.shop_model.proofs.cited.Lists.{row_at}
use Rattle.shop_model.proofs.cited.Scales.{is_roomy}
use Rattle.shop_populate.proofs.RowFacts.{address_exists}
use Rattle.shop_populate.proofs.lookups.customer_at.Goals as goal

pub returns-clause-value : goal.returns-clause-value
unfolding spec.customers_table
returns-clause-value c =
    row_at _ _ _ _ _ c.requires.table c.requires.has.first c.requires.has.last c.index-customers-id.is

pub returns-clause-known : goal.returns-clause-known
returns-clause-known c =
    let roomy = is_roomy c.args.scale.now (rw (← c.scale.view_is) c.scale.invariant) in
    rw (returns-clause-value c) (address_exists c.args.seed c.args.scale.now roomy c.args.id)
