use Rattle.std.proofs.Common.{rules}
use Rattle.shop_ranking.proofs.best.SoldRanked.compare.Goals as goal

pub returns : goal.returns
returns c = search rules
