use Rattle.std.proofs.Common.{sym, arith}
use Rattle.shop_pages.proofs.Escaped.{text_begun, byte_taken, text_ended}
use Rattle.shop_pages.proofs.reading.texts.read_text.Goals as goal

pub loop-byte-init : goal.loop-byte-init
loop-byte-init c = (text_begun c.args.bytes.now _ c.new-text.ensures, omega arith)

pub loop-byte-preserved : goal.loop-byte-preserved
loop-byte-preserved c = (
  byte_taken _ _ _ _ _ c.in-Some.byte c.loop-byte.invariant.0 c.in_ok-push.ensures.ok (sym c.in-Some.ensures.value),
  omega (arith, c.in-Some.ensures.shorter),
)

pub returns-clause-read : goal.returns-clause-read
returns-clause-read c = text_ended _ _ _ c.loop-byte.invariant.0 (sym c.in_default.ensures.value)
