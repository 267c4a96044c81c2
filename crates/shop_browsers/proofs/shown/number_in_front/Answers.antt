use Rattle.std.proofs.Common.{rules, sym, ◌∙◌}
use Rattle.shop_browsers.proofs.Numbers.{takes_digits, takes_none, takes_nothing, number_is}
use Rattle.shop_browsers.proofs.shown.number_in_front.Goals as goal

pub returns-then-left-text-clause-number : goal.returns-then-left-text-clause-number
returns-then-left-text-clause-number c =
    let read = c.digits_in_front-value.ensures in
    takes_nothing c.args.text.now c.digits_in_front-value.result.1.now c.digits_in_front-value.result.0 read.digits read.stops c.if-left-text.true

pub returns-then-not-pair_ends-clause-number : goal.returns-then-not-pair_ends-clause-number
returns-then-not-pair_ends-clause-number c =
    let read = c.digits_in_front-value.ensures in
    takes_none c.args.text.now c.digits_in_front-value.result.1.now c.digits_in_front-value.result.0 read.digits read.stops
    (λ t tail begins. sym c.if-not-pair_ends.true ∙ c.pair_ends.ensures t tail begins)

pub returns-clause-number : goal.returns-clause-number
returns-clause-number c =
    let read = c.digits_in_front-value.ensures in
    takes_digits c.args.text.now c.digits_in_front-value.result.1.now c.digits_in_front-value.result.0 c.ok.result read.digits
    (λ t tail begins. sym c.if-not-pair_ends.false ∙ c.pair_ends.ensures t tail begins)
    (search rules
    ∙ sym (number_is c.args.text.now c.digits_in_front-value.result.1.now c.digits_in_front-value.result.0 read.digits c.if-left-text.false))
