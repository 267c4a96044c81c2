use Rattle.std.proofs.Common.{rules, decimal}
use Rattle.shop_text.proofs.cited.Plain.{plain_spelled}
use Rattle.shop_draft.proofs.holes.put_user.Goals as goal

pub returns-in-Some-clause-bytes : goal.returns-in-Some-clause-bytes
returns-in-Some-clause-bytes c = rw (c.in-Some.is, plain_spelled (decimal c.in-Some.customer)) (search rules)
