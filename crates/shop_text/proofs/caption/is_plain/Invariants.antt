use Rattle.std.proofs.Common.{◌≡◌, take}
use Rattle.shop_text.specs.Escape.{escape}
use Rattle.shop_text.proofs.caption.is_plain.Given as goal

abbrev pub invariant-loop-byte : goal.invariant-loop-byte
invariant-loop-byte l = escape (take l.byte-index l.bytes) ≡ take l.byte-index l.bytes
