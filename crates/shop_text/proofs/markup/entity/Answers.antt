use Rattle.std.proofs.Common.{rules}
use Rattle.shop_text.proofs.markup.entity.Goals as goal

pub returns-in-34-clause-value : goal.returns-in-34-clause-value
returns-in-34-clause-value c = search rules
