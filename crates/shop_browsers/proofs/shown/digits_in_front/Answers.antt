use Rattle.std.proofs.Common.{sym, ◌∙◌}
use Rattle.shop_browsers.proofs.Numbers.{digit_more}
use Rattle.shop_browsers.proofs.shown.digits_in_front.Goals as goal

pub loop-rest-preserved : goal.loop-rest-preserved
loop-rest-preserved c =
    digit_more c.args.text.now c.loop-rest.rest.now c.loop-rest.value c.from.result c.loop-rest.invariant (sym c.is_ascii_digit.ensures.value ∙ c.if-not-is_ascii_digit.false)
    c.in-len1-up.len_at_least c.if-text-rest-eq10.false c.from.ensures
