use Rattle.std.proofs.Common.{◌≡◌, length, take}
use Rattle.shop_text.specs.Escape.{escape}
use Rattle.shop_draft.proofs.flat.write_plain.Given as goal

-- the bytes up to here are plain, and written
abbrev pub invariant-loop-at : goal.invariant-loop-at
invariant-loop-at l = record {
  plain : escape (take l.at l.bytes) ≡ take l.at l.bytes;
  written : take l.at l.place ≡ take l.at l.bytes;
  same : length l.place ≡ length l.bytes;
}
