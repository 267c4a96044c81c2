use Rattle.std.proofs.Common.{rules}
use Rattle.shop_draft.proofs.UserTexts.{length-user}
use Rattle.shop_draft.proofs.holes.id_len.Goals as goal

pub returns-clause-user : goal.returns-clause-user
returns-clause-user c = rw (length-user c.args.id) (search rules)
