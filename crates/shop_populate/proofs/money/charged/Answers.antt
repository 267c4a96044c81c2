use Rattle.std.proofs.Common.{rules}
use Rattle.shop_model.specs.trade.Money as spec
use Rattle.shop_populate.proofs.money.charged.Goals as goal

pub returns-clause-value : goal.returns-clause-value
unfolding spec.money spec.sub_of spec.tax_of spec.ship_of
returns-clause-value c = search rules
