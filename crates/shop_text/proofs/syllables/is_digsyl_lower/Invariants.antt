use Rattle.std.proofs.Common.{◌≡◌, ◌-◌, ◌++◌, map, take}
use Rattle.std.specs.List.{flat_map}
use Rattle.shop_text.specs.Fold.{lower}
use Rattle.shop_text.specs.Syllables.{syllable}
use Rattle.shop_text.proofs.syllables.is_digsyl_lower.Given as goal

-- the syllables of the first digits were taken off
abbrev pub invariant-loop-code : goal.invariant-loop-code
invariant-loop-code l = l.text ≡ flat_map (λ code. map lower (syllable (code - 48))) (take l.code-index l.code-items) ++ l.rest
