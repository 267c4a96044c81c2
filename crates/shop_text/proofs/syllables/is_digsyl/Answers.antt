use Rattle.std.proofs.Common.{◌≡◌, ◌≢◌, ◌++◌, ◌↔◌, List, ℕ, decimal, Some, None, rules, IsTrue, ◌∙◌}
use Rattle.std.proofs.lemmas.Bool.Decides.{Decides-eqb}
use Rattle.std.proofs.lemmas.Slice.Eq.{strip_prefix_is}
use Rattle.shop_text.specs.Syllables.{syllable, spelled}
use Rattle.shop_text.proofs.Spelled.{spelled_more, spelled_differs, spelled_all}
use Rattle.shop_text.proofs.syllables.is_digsyl.Goals as goal

pub loop-code-preserved : goal.loop-code-preserved
loop-code-preserved c =
    let digits = c.as_bytes-code-items.result.now in
    let rest = c.loop-code.rest.now in
    let piece = c.syllable.result.now in
    let off : rest ≡ piece ++ c.in-Some.after.now =
    strip_prefix_is Decides-eqb rest piece (Some c.in-Some.after) c.in-Some.ensures.cases in
    spelled_more syllable digits c.args.text.now rest piece c.in-Some.after.now c.loop-code.code-index
    c.loop-code-test.true c.loop-code.invariant (search rules) off

pub returns-in-None : goal.returns-in-None
returns-in-None c =
    let digits = c.as_bytes-code-items.result.now in
    let rest = c.loop-code.rest.now in
    let piece = c.syllable.result.now in
    let other : (after : List ℕ) → rest ≢ piece ++ after =
    strip_prefix_is Decides-eqb rest piece None c.in-None.ensures.cases in
    let differs : c.args.text.now ≢ spelled digits =
    spelled_differs syllable digits c.args.text.now rest piece c.loop-code.code-index
    c.loop-code-test.true c.loop-code.invariant (search rules) other in
    let is : digits ≡ decimal c.args.number = c.as_bytes-code-items.ensures.value ∙ c.format.ensures.text in
    let none : c.args.text.now ≢ spelled (decimal c.args.number) = rw is at differs in
    (λ no. cc, λ same. absurd (none same))

pub returns : goal.returns
returns c =
    let digits = c.as_bytes-code-items.result.now in
    let is : digits ≡ decimal c.args.number = c.as_bytes-code-items.ensures.value ∙ c.format.ensures.text in
    let all : IsTrue c.is_empty.result ↔ (c.args.text.now ≡ spelled digits) =
    rw c.is_empty.ensures (spelled_all syllable digits c.args.text.now c.loop-code.rest.now c.loop-code.code-index c.loop-code-test.false c.loop-code.invariant) in
    rw is at all
