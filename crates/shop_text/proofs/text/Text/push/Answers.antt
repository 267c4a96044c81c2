use Rattle.std.proofs.Common.{rules}
use Rattle.shop_text.proofs.text.Text.push.Goals as goal

pub returns-clause-ok : goal.returns-clause-ok
returns-clause-ok c = search rules
