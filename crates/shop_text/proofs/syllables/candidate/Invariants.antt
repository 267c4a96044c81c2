use Rattle.std.proofs.Common.{◌≡◌, ℕ, ◌<◌, ◌^◌}
use Rattle.shop_text.specs.Syllables.{digsyl}
use Rattle.shop_text.proofs.Spelled.{IsLeft}
use Rattle.shop_text.proofs.syllables.candidate.Given as goal

abbrev pub invariant-loop-syllable : goal.invariant-loop-syllable
invariant-loop-syllable l = (l.syllable-iterator.size ≡ 2)
    × ((n : ℕ) → n < 2 ^ 32 → l.text ≡ digsyl n → IsLeft n l.number l.syllable-iterator.rest.now)
