use Rattle.std.proofs.Common.{◌≡◌, ◌++◌, take}
use Rattle.shop_text.specs.Syllables.{spelled}
use Rattle.shop_text.proofs.syllables.is_digsyl.Given as goal

abbrev pub invariant-loop-code : goal.invariant-loop-code
invariant-loop-code l = l.text ≡ spelled (take l.code-index l.code-items) ++ l.rest
