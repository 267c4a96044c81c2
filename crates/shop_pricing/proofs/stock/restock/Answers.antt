use Rattle.std.proofs.Common.{arith, rules}
use Rattle.std.proofs.lemmas.Grind.{common_steps}
use Rattle.shop_model.specs.trade.Stocks.{stock_after}
use Rattle.shop_model.proofs.cited.Restocking.{times_is}
use Rattle.shop_pricing.proofs.stock.restock.Goals as goal

pub overflow_sub-result : goal.overflow_sub-result
overflow_sub-result c = search rules

pub returns-clause-restocked : goal.returns-clause-restocked
unfolding stock_after
returns-clause-restocked c = grind (arith, common_steps, times_is)

pub returns-clause-enough : goal.returns-clause-enough
returns-clause-enough c = search rules
