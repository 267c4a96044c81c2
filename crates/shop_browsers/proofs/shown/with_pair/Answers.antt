use Rattle.std.proofs.Common.{codes, Some, None}
use Rattle.std.proofs.lemmas.Bool.Decides.{Decides-eqb}
use Rattle.std.proofs.lemmas.Slice.Eq.{strip_prefix_is}
use Rattle.shop_browsers.proofs.Taking.{customer_taken, cart_taken, other_taken}
use Rattle.shop_browsers.proofs.shown.with_pair.Goals as goal

pub returns-in-Some-clause-taken : goal.returns-in-Some-clause-taken
returns-in-Some-clause-taken c =
    let text = c.args.text.now in
    customer_taken c.args.ids text c.in-Some.digits.now c.number_in_front-number.result.1.now c.number_in_front-number.result.0 c.or.result
    (strip_prefix_is Decides-eqb text (codes "c=") (Some c.in-Some.digits) c.in-Some.ensures.cases) c.number_in_front-number.ensures.number c.or.ensures

pub returns-in-Some-strip_prefix-clause-taken : goal.returns-in-Some-strip_prefix-clause-taken
returns-in-Some-strip_prefix-clause-taken c =
    let text = c.args.text.now in
    let read = c.number_in_front-number-in-Some-strip_prefix in
    cart_taken c.args.ids text c.in-Some-strip_prefix.digits.now read.result.1.now read.result.0 c.or-in-Some-strip_prefix.result
    (strip_prefix_is Decides-eqb text (codes "cart=") (Some c.in-Some-strip_prefix.digits) c.in-Some-strip_prefix.ensures.cases) read.ensures.number c.or-in-Some-strip_prefix.ensures

pub returns-clause-taken : goal.returns-clause-taken
returns-clause-taken c =
    let text = c.args.text.now in
    other_taken c.args.ids text (strip_prefix_is Decides-eqb text (codes "c=") None c.in_default.ensures.cases)
    (strip_prefix_is Decides-eqb text (codes "cart=") None c.in_default-strip_prefix.ensures.cases)
