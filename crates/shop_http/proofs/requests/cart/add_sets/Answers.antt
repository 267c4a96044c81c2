use Rattle.std.proofs.Common.{◌≡◌, ◌∙◌, [], Some, sym, ap}
use Rattle.std.specs.Option.{ok_or}
use Rattle.form_urlencoded.specs.Parse.{raw_pairs_left}
use Rattle.shop_model.specs.declared.parameter.Parameter.TheVariants.{Qty}
use Rattle.shop_http.specs.Sets.{sets_behind}
use Rattle.shop_http.proofs.Pairs.{pairs-decoded}
use Rattle.shop_http.proofs.SetLemmas.{sets_behind-nil, sets_behind-bad, sets_behind-one}
use Rattle.shop_http.proofs.requests.cart.add_sets.Goals as goal

pub loop-name-init : goal.loop-name-init
loop-name-init c =
    rw (c.into_iter-name-iterator.ensures.into_iter_gives, c.raw_pairs-name-items.ensures.value)
    (ap (sets_behind c.args.before) (pairs-decoded c.args.encoded.now))

pub returns-in_default-asked : goal.returns-in_default-asked
returns-in_default-asked c =
    let left = rw c.in-Some.ensures.steps at c.loop-name.invariant in
    let bad = sym c.in_ok-asked.ensures ∙ c.in-Some-2.is ∙ ap Some c.in_default-asked.is in
    ap (λ asked. ok_or asked Qty) (sym left ∙ sets_behind-bad _ _ _ bad)

pub loop-name-preserved : goal.loop-name-preserved
loop-name-preserved c =
    let left = rw c.in-Some.ensures.steps at c.loop-name.invariant in
    let one = sym c.in_ok-asked.ensures ∙ c.in-Some-2.is ∙ ap Some c.in-Some-asked.is in
    rw c.in_ok-push.ensures.ok (sym (sets_behind-one _ _ _ _ one) ∙ left)

pub returns : goal.returns
returns c =
    let none : raw_pairs_left c.loop-name.name-iterator ≡ [] = c.in-None.ensures.steps.0 in
    let left = rw none at c.loop-name.invariant in
    ap (λ asked. ok_or asked Qty) (sym left ∙ sets_behind-nil _)
