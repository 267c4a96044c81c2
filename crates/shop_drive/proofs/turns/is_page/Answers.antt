use Rattle.std.proofs.Common.{rules}
use Rattle.shop_drive.proofs.turns.is_page.Goals as goal

pub returns : goal.returns
returns c = search rules
