use Rattle.std.proofs.Common.{rules}
use Rattle.shop_cache.proofs.keys.ListKey.asked.Goals as goal

pub returns-in-NewProducts : goal.returns-in-NewProducts
returns-in-NewProducts c = search rules
