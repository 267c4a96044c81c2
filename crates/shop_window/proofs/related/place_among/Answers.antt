use Rattle.std.proofs.Common.{◌≡◌, ◌∙◌, sym, true, false, get_or, arith}
use Rattle.std.specs.Ordering.{is_gt}
use Rattle.shop_model.specs.lists.Rankings.{better}
use Rattle.shop_window.proofs.Putting.{place_before, place_behind, place_last}
use Rattle.shop_window.proofs.related.place_among.Goals as goal

pub returns-then-not-is_gt-clause-place : goal.returns-then-not-is_gt-clause-place
returns-then-not-is_gt-clause-place c =
    let x = c.args.sale.now in let xs = c.args.others.now in let i = c.loop-place.place in let y = c.index-others-place.result in
    let before : is_gt (better x (get_or xs i y)) ≡ false = cc in
    sym (place_before better x xs i y (omega arith) before) ∙ c.loop-place.invariant

pub loop-place-preserved : goal.loop-place-preserved
loop-place-preserved c =
    let x = c.args.sale.now in let xs = c.args.others.now in let i = c.loop-place.place in let y = c.index-others-place.result in
    let after : is_gt (better x (get_or xs i y)) ≡ true = cc in
    sym (place_behind better x xs i y (omega arith) after) ∙ c.loop-place.invariant

pub returns-clause-place : goal.returns-clause-place
returns-clause-place c =
    sym (place_last better c.args.sale.now c.args.others.now c.loop-place.place (omega arith)) ∙ c.loop-place.invariant
