use Rattle.std.proofs.Common.{rules}
use Rattle.shop_pricing.proofs.totals.half_up.Goals as goal

pub returns : goal.returns
returns c = search rules
