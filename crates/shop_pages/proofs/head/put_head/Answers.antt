use Rattle.std.proofs.Common.{append_assoc}
use Rattle.shop_pages.proofs.UsualHead.{usual_head}
use Rattle.shop_pages.proofs.head.put_head.Goals as goal

pub returns-then-not-form-clause-bytes : goal.returns-then-not-form-clause-bytes
returns-then-not-form-clause-bytes c =
    rw (
      c.put-then-not-form.ensures.bytes,
      c.put_decimal.ensures.bytes,
      c.put.ensures.bytes,
      c.if-status-eq200.true,
      usual_head c.args.len c.args.form.close c.args.form.bodiless c.if-not-form.true,
    )
    (simp append_assoc)
