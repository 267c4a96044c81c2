use Rattle.std.proofs.Common.{◌≡◌, ◌-◌, refl, ap, ◌∙◌, get_or, arith}
use Rattle.shop_model.specs.lists.Rankings.{Sale}
use Rattle.shop_window.proofs.Offering.{walked_none, walked_fits, walked_other, walked_all}
use Rattle.shop_window.proofs.related.most_bought.Goals as goal

pub loop-place-init : goal.loop-place-init
loop-place-init c =
    rw c.in_ok-top.ensures.items (walked_none c.args.pairs.now c.args.item c.args.items c.requires.some c.requires.names)

pub overflow_add-sale : goal.overflow_add-sale
overflow_add-sale c =
    let pairs = c.args.pairs.now in
    let place = c.loop-place.place in
    let id = ap (λ (s : Sale). s.id) c.sale.view_is in
    let units = ap (λ (s : Sale). s.units) c.sale.view_is in
    let fits = walked_fits pairs c.args.item c.args.items place (get_or pairs (place - 1) (0, 0)) c.loop-place.sale c.loop-place.top.items
    (omega arith) (omega arith) refl (omega (arith, id)) c.loop-place.invariant in
    omega (arith, fits, units, c.requires.fits)

pub loop-place-preserved : goal.loop-place-preserved
loop-place-preserved c =
    let pairs = c.args.pairs.now in
    let place = c.loop-place.place in
    let id = ap (λ (s : Sale). s.id) c.sale.view_is in
    rw c.in_ok-offer.ensures (walked_other pairs c.args.item c.args.items place (get_or pairs (place - 1) (0, 0)) c.loop-place.sale c.loop-place.top.items
    c.requires.rising c.requires.names (omega arith) (omega arith) refl (λ e. c.if-id-sale.false (omega (arith, e, id))) c.loop-place.invariant)

pub returns : goal.returns
returns c =
    let all : c.loop-place.place ≡ 0 = omega arith in
    c.in_ok-offer-2.ensures ∙ walked_all c.args.pairs.now c.args.item c.args.items c.loop-place.sale c.loop-place.top.items (rw all at c.loop-place.invariant)
