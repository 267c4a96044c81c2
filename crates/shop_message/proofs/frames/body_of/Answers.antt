use Rattle.std.proofs.Common.{rules}
use Rattle.shop_message.specs.Heads.{body_of}
use Rattle.shop_message.proofs.frames.body_of.Goals as goal

pub returns-clause-value : goal.returns-clause-value
unfolding body_of
returns-clause-value c = search rules
