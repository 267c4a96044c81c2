use Rattle.shop_draft.proofs.Pairs.{digits_at}
use Rattle.shop_draft.proofs.digits.digits.Goals as goal

pub returns-clause-tens : goal.returns-clause-tens
returns-clause-tens c = (digits_at c.args.number c.requires).0

pub returns-clause-ones : goal.returns-clause-ones
returns-clause-ones c = (digits_at c.args.number c.requires).1
