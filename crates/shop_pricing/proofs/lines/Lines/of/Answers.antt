use Rattle.std.proofs.Common.{◌≡◌, ◌≢◌, ℕ, suc, ◌<◌, ◌+◌, List, length, get_or, take, AllPairs, ap, ◌∙◌, nat_eq, arith}
use Rattle.indexmap.specs.IndexMap.{insert_entry}
use Rattle.shop_model.specs.rows.Rows.{CartRow}
use Rattle.shop_pricing.proofs.Setting.{insert_next}
use Rattle.shop_pricing.proofs.lines.Lines.of.Goals as goal

-- the lines of a cart up to the next
next : (items lines entries now : List (ℕ × ℕ)) (n : ℕ) (d : ℕ × ℕ) → items ≡ lines → AllPairs (λ a b. a.0 ≢ b.0) lines
    → n < length items → entries ≡ take n lines → now ≡ insert_entry nat_eq entries (get_or items n d).0 (get_or items n d).1
    → now ≡ take (n + 1) lines
next items lines entries now n d same distinct within before made =
    let more : suc n ≡ n + 1 = omega arith in
    let inside : n < length lines = omega (arith, ap (length {A = ℕ × ℕ}) same) in
    made
    ∙ ap (λ (es : List (ℕ × ℕ)). insert_entry nat_eq es (get_or items n d).0 (get_or items n d).1) before
    ∙ ap (λ (ls : List (ℕ × ℕ)). insert_entry nat_eq (take n lines) (get_or ls n d).0 (get_or ls n d).1) same
    ∙ insert_next lines n d distinct inside
    ∙ ap (λ (m : ℕ). take m lines) more

pub loop-item-preserved : goal.loop-item-preserved
loop-item-preserved c =
    next c.as_slice-pairs.result.now c.args.cart.now.lines c.loop-item.quantities.entries _ c.loop-item.item-index (0, 0)
    (c.as_slice-pairs.ensures ∙ c.get.ensures ∙ ap (λ (cart : CartRow). cart.lines) c.cart.view_is) c.requires.distinct
    c.loop-item-test.true c.loop-item.invariant c.in_ok-insert.ensures.entries
