use Rattle.shop_journal.proofs.Kept as kept
use Rattle.shop_journal.proofs.written_again.Goals as goal

pub returns : goal.returns
returns c = kept.written_again
