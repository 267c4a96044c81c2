use Rattle.std.proofs.Common.{decimal, arith, append_assoc}
use Rattle.shop_text.proofs.cited.Plain.{plain_decimal}
use Rattle.shop_draft.proofs.short.Short.put_id.Goals as goal

pub returns-in-Some-clause-text : goal.returns-in-Some-clause-text
returns-in-Some-clause-text c =
    let id = c.in-Some.id in
    rw (c.in-Some.is, plain_decimal id (omega arith), c.put_number.ensures.text, c.put.ensures) (append_assoc c.args.self.now c.args.mark.now (decimal id))
