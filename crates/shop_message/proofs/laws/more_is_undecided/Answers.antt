use Rattle.shop_message.proofs.GatheredLemmas.{more-undecided}
use Rattle.shop_message.proofs.laws.more_is_undecided.Goals as goal

pub returns : goal.returns
returns c = more-undecided
