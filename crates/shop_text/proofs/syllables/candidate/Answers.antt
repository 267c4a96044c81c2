use Rattle.std.proofs.Common.{◌≡◌, arith, rules}
use Rattle.shop_text.proofs.Spelled.{left_all, left_more, left_none}
use Rattle.shop_text.proofs.syllables.candidate.Goals as goal

pub loop-syllable-init : goal.loop-syllable-init
loop-syllable-init c = (
  search rules,
  λ n lt spells.
      let all : c.into_iter-syllable-iterator.result.rest.now ≡ c.args.text.now = search rules in
      rw (all, spells) (left_all n (omega arith)),
)

pub loop-syllable-preserved : goal.loop-syllable-preserved
loop-syllable-preserved c =
    let steps = c.in-Some.ensures.steps in (
      search rules,
      λ n lt spells.
          let left = c.loop-syllable.invariant.1 n lt spells in
          left_more n c.loop-syllable.number c.digit_of.result _ c.in-Some.syllable.now _ lt (search rules) c.digit_of.ensures
          (λ few. omega arith) (rw steps.1.0 at left),
    )

pub returns : goal.returns
returns c = λ n lt spells.
    left_none n c.loop-syllable.number _ (search rules) (c.loop-syllable.invariant.1 n lt spells)
