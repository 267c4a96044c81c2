use Rattle.std.proofs.Common.{ℕ, ◌+◌, List, [], ◌∷◌, ◌++◌, get_or, sym, ◌∙◌, ap}
use Rattle.shop_model.specs.rows.Rows.{LineRow}
use Rattle.shop_order.proofs.PurchaseLemmas.{numbered_more}
use Rattle.shop_order.proofs.new_order.order_lines.Goals as goal

pub loop-place-preserved : goal.loop-place-preserved
loop-place-preserved c =
    let i : ℕ = c.loop-place.place in
    let line : ℕ × ℕ × ℕ = get_or c.args.priced.now i (0, 0, 0) in
    c.in_ok-push.ensures.ok
    ∙ ap (λ (lines : List LineRow). lines ++ record { number = i + 1; item = line.0; quantity = line.1; cost = line.2 } ∷ []) c.loop-place.invariant
    ∙ sym (numbered_more c.args.priced.now i (0, 0, 0) c.loop-place-test.true)
