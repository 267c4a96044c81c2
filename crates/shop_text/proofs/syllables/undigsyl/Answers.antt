use Rattle.std.proofs.Common.{rules}
use Rattle.shop_text.proofs.syllables.undigsyl.Goals as goal

-- src/syllables.rt:168:1
pub returns-clause-some : goal.returns-clause-some
returns-clause-some c = search rules
