use Rattle.std.proofs.Common.{rules}
use Rattle.shop_search.proofs.lists.at.Goals as goal

pub returns-in-Some : goal.returns-in-Some
returns-in-Some c = search rules
