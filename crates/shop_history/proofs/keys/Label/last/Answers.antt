use Rattle.std.proofs.Common.{rules}
use Rattle.shop_history.proofs.keys.Label.last.Goals as goal

pub returns : goal.returns
returns c = search rules
