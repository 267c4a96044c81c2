use Rattle.shop_journal.proofs.Lengths as lengths
use Rattle.shop_journal.proofs.fits.Goals as goal

pub returns : goal.returns
returns c = lengths.fits
