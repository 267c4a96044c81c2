use Rattle.std.proofs.Common.{rules}
use Rattle.shop_model.proofs.address.AddressText.copy.Goals as goal

pub returns : goal.returns
returns c = search rules
