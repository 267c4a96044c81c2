use Rattle.std.proofs.Common.{◌≤◌, length}
use Rattle.shop_pages.proofs.Escaped.{IsAmid}
use Rattle.shop_pages.proofs.reading.texts.read_text.Given as goal

abbrev pub invariant-loop-byte : goal.invariant-loop-byte
invariant-loop-byte l = IsAmid l.bytes l.text l.rest × (length l.rest ≤ length l.bytes)

abbrev pub decreases-loop-byte : goal.decreases-loop-byte
decreases-loop-byte l = length l.rest
