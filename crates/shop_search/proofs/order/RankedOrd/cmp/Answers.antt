use Rattle.std.proofs.Common.{rules}
use Rattle.shop_search.proofs.order.RankedOrd.cmp.Goals as goal

pub returns : goal.returns
returns c = search rules
