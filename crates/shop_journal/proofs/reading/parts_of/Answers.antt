use Rattle.std.proofs.Common.{◌≡◌, ℕ, ◌+◌, ◌-◌, length, take, drop, sym, ◌∙◌, ap, subst, arith}
use Rattle.std.proofs.lemmas.List.{take_rest}
use Rattle.shop_journal.proofs.Cuts.{AreCut, cut}
use Rattle.shop_journal.proofs.reading.parts_of.Goals as goal

pub returns-then-payload-place : goal.returns-then-payload-place
returns-then-payload-place c = λ e is same.
    absurd (omega (arith, (cut c.args.format e is).long, ap length same, c.if-payload-place.true, c.auth_place-place.ensures.place))

pub returns : goal.returns
returns c = λ e is same.
    let payload = c.args.payload.now in
    let parts = subst (AreCut c.args.format e) (sym same) (cut c.args.format e is) in
    let place = c.auth_place-place.result in
    let at = c.auth_place-place.ensures.place in
    let width : place + 15 - place ≡ 15 = omega arith in
    record {
      caller = c.word_at.ensures ∙ parts.caller;
      number = c.long_at.ensures ∙ parts.number;
      stamp = c.long_at-2.ensures ∙ parts.stamp;
      draw = c.word_at-2.ensures ∙ parts.draw;
      tax = c.tax_at.ensures e is same;
      auth = (λ i. take (width i) (drop (at i) payload)) ∙ parts.auth;
      target = take_rest payload (place + 15) ∙ ap (λ (n : ℕ). drop (n + 15) payload) at ∙ parts.target;
    }
