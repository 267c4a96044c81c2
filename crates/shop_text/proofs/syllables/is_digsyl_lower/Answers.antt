use Rattle.std.proofs.Common.{◌≡◌, ◌≢◌, ◌++◌, ◌↔◌, List, ℕ, ◌-◌, map, decimal, Some, None, rules, IsTrue, sym, ◌∙◌, ap}
use Rattle.std.specs.List.{flat_map}
use Rattle.std.proofs.lemmas.Bool.Decides.{Decides-eqb}
use Rattle.std.proofs.lemmas.Slice.Eq.{strip_prefix_is}
use Rattle.shop_text.specs.Fold.{lower}
use Rattle.shop_text.specs.Syllables.{syllable, digsyl_lower}
use Rattle.shop_text.proofs.Spelled.{spelled_more, spelled_differs, spelled_all, lower_spelled}
use Rattle.shop_text.proofs.syllables.is_digsyl_lower.Goals as goal

-- the syllable of a digit
abbrev small : ℕ → List ℕ
small digit = map lower (syllable digit)

-- the digits of the number spell what it spells
spells : (digits : List ℕ) (n : ℕ) → digits ≡ decimal n → flat_map (λ code. small (code - 48)) digits ≡ digsyl_lower n
spells digits n is = ap (λ (l : List ℕ). flat_map (λ code. small (code - 48)) l) is ∙ sym (lower_spelled (decimal n))

pub loop-code-preserved : goal.loop-code-preserved
loop-code-preserved c =
    let digits = c.as_bytes-code-items.result.now in
    let rest = c.loop-code.rest.now in
    let piece = c.syllable_lower.result.now in
    let off : rest ≡ piece ++ c.in-Some.after.now =
    strip_prefix_is Decides-eqb rest piece (Some c.in-Some.after) c.in-Some.ensures.cases in
    spelled_more small digits c.args.text.now rest piece c.in-Some.after.now c.loop-code.code-index
    c.loop-code-test.true c.loop-code.invariant (search rules) off

pub returns-in-None : goal.returns-in-None
returns-in-None c =
    let digits = c.as_bytes-code-items.result.now in
    let rest = c.loop-code.rest.now in
    let piece = c.syllable_lower.result.now in
    let other : (after : List ℕ) → rest ≢ piece ++ after =
    strip_prefix_is Decides-eqb rest piece None c.in-None.ensures.cases in
    let differs = spelled_differs small digits c.args.text.now rest piece c.loop-code.code-index
    c.loop-code-test.true c.loop-code.invariant (search rules) other in
    let all = spells digits c.args.number (c.as_bytes-code-items.ensures.value ∙ c.format.ensures.text) in
    (λ no. cc, λ same. absurd (differs (same ∙ sym all)))

pub returns : goal.returns
returns c =
    let digits = c.as_bytes-code-items.result.now in
    let all : IsTrue c.is_empty.result ↔ (c.args.text.now ≡ flat_map (λ code. small (code - 48)) digits) =
    rw c.is_empty.ensures (spelled_all small digits c.args.text.now c.loop-code.rest.now c.loop-code.code-index c.loop-code-test.false c.loop-code.invariant) in
    rw (spells digits c.args.number (c.as_bytes-code-items.ensures.value ∙ c.format.ensures.text)) at all
