use Rattle.std.proofs.Common.{refl}
use Rattle.shop_poll.proofs.run.told_of.Goals as goal

pub returns-in-Bad-clause-bad_words : goal.returns-in-Bad-clause-bad_words
returns-in-Bad-clause-bad_words g c bad = c.in-Bad.ensures.bad refl
