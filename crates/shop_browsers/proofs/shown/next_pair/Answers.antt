use Rattle.std.proofs.Common.{◌≡◌, Some, ap, sym, ◌∙◌, arith}
use Rattle.std.proofs.lemmas.Bool.{ne_eqb}
use Rattle.shop_text.specs.Escape.{first_read}
use Rattle.shop_browsers.proofs.Reading.{left_more, next_found, next_none, next_unread}
use Rattle.shop_browsers.proofs.shown.next_pair.Goals as goal

pub returns-in_default-clause-next : goal.returns-in_default-clause-next
returns-in_default-clause-next c = λ t tail left.
    next_unread t tail c.loop-rest.rest.now (c.loop-rest.invariant.left t tail left) (sym c.target_ends.ensures ∙ c.loop-rest-test.true) (sym c.in_default.ensures.value)

pub returns-then-byte-eq38-clause-next : goal.returns-then-byte-eq38-clause-next
returns-then-byte-eq38-clause-next c = λ t tail left.
    let after = c.in-Some.after.now in
    let read : first_read c.loop-rest.rest.now ≡ Some (38, after) = sym c.in-Some.ensures.value ∙ ap (λ b. Some (b, after)) c.if-byte-eq38.true in
    next_found t tail c.loop-rest.rest.now after (c.loop-rest.invariant.left t tail left) read (sym c.target_ends.ensures ∙ c.loop-rest-test.true)

pub loop-rest-preserved : goal.loop-rest-preserved
loop-rest-preserved c = record {
  left = λ t tail left.
      left_more t tail c.loop-rest.rest.now c.in-Some.after.now c.in-Some.byte (c.loop-rest.invariant.left t tail left) (sym c.in-Some.ensures.value)
      (sym c.target_ends.ensures ∙ c.loop-rest-test.true) (ne_eqb c.in-Some.byte 38 c.if-byte-eq38.false);
  size = omega (arith, c.in-Some.ensures.shorter, c.loop-rest.invariant.size);
}

pub returns-clause-next : goal.returns-clause-next
returns-clause-next c = λ t tail left.
    next_none t tail c.loop-rest.rest.now (c.loop-rest.invariant.left t tail left) (sym c.target_ends.ensures ∙ c.loop-rest-test.false)
