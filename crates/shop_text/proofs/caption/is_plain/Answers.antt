use Rattle.shop_text.proofs.cited.Plain.{plain_more}
use Rattle.shop_text.proofs.caption.is_plain.Goals as goal

pub loop-byte-preserved : goal.loop-byte-preserved
loop-byte-preserved c =
    plain_more _ _ c.loop-byte-test.true c.loop-byte.invariant (c.is_plain_byte.ensures c.if-not-is_plain_byte.false)
