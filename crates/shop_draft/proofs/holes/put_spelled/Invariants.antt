use Rattle.std.proofs.Common.{◌≡◌, ◌≤◌, ◌+◌, ◌*◌, ◌++◌, take}
use Rattle.shop_text.specs.Syllables.{spelled}
use Rattle.shop_draft.proofs.holes.put_spelled.Given as goal

abbrev pub invariant-loop-code : goal.invariant-loop-code
invariant-loop-code l = record {
  bytes : l.out.bytes ≡ l.initial.out.bytes ++ spelled (take l.code-index l.digits);
  room : l.initial.out.room ≤ l.out.room + 2 * l.code-index;
}
