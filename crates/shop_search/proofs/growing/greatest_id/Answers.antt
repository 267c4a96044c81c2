use Rattle.std.proofs.Common.{◌≡◌, ℕ, Some, map, take, ap, sym, ◌∙◌, arith}
use Rattle.std.specs.Prelude.{max, unwrap_or}
use Rattle.shop_search.specs.Growing.{greatest}
use Rattle.shop_search.proofs.GrowingLemmas.{greatest_next}
use Rattle.shop_search.proofs.growing.greatest_id.Goals as goal

pub loop-item-preserved : goal.loop-item-preserved
loop-item-preserved c =
    let is = greatest_next c.args.items.now c.loop-item.item-index c.item-item.result (omega arith) c.item-item.is in
    let most : c.max.result ≡ max c.id.result c.unwrap_or.result = omega (arith, c.max.ensures) in
    let before : c.unwrap_or.result ≡ unwrap_or (greatest (map (λ f. f.id) (take c.loop-item.item-index c.args.items.now))) 0 =
    c.unwrap_or.ensures ∙ ap (λ o. unwrap_or o 0) c.loop-item.invariant in
    ap (λ (m : ℕ). Some m) (most ∙ ap (λ (m : ℕ). max m c.unwrap_or.result) c.id.ensures ∙ ap (max c.item-item.result.id) before) ∙ sym is
