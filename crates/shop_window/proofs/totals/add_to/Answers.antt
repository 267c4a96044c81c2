use Rattle.std.proofs.Common.{◌≡◌, ℕ, ap, ◌∙◌, sym, arith, get_or}
use Rattle.std.proofs.lemmas.List.{get_or_default}
use Rattle.shop_window.proofs.Summing.{below, below_within, add_present, add_absent}
use Rattle.shop_window.proofs.totals.add_to.Goals as goal
use Rattle.shop_window.proofs.totals.add_to.Goals.{else-place-len-via-then-place-len+else-index-item, else-place-len-via-else-place-len}

pub returns-then-index-item : goal.returns-then-index-item
returns-then-index-item c =
    let item = c.args.item in let totals = c.args.totals.now.items in
    let at : c.count_below-place.result ≡ below item totals = c.count_below-place.ensures ∙ ap (below item) c.deref.ensures.value in
    let here : (get_or totals (below item totals) c.index.result.now).0 ≡ item =
    rw at at (sym (ap (λ (t : ℕ × ℕ). t.0) c.index.ensures) ∙ c.if-index-item.true) in
    let same : (get_or totals (below item totals) c.index_mut.result.now).0 ≡ item =
    ap (λ (t : ℕ × ℕ). t.0) (get_or_default totals (below item totals) c.index_mut.result.now c.index.result.now (omega (arith, at))) ∙ here in
    rw (c.from.ensures, c.index_mut.ensures.value, at) (add_present (item, c.args.quantity) c.index_mut.result.now totals (omega (arith, at)) same)

pub insert-requires : goal.insert-requires
insert-requires c =
    let at : c.count_below-place.result ≡ below c.args.item c.args.totals.now.items =
    c.count_below-place.ensures ∙ ap (below c.args.item) c.deref.ensures.value in
    let low = below_within c.args.item c.args.totals.now.items in
    omega (arith, at, low)

pub returns : goal.returns
returns c =
    let item = c.args.item in let totals = c.args.totals.now.items in
    let at : c.count_below-place.result ≡ below item totals = c.count_below-place.ensures ∙ ap (below item) c.deref.ensures.value in
    c.in_ok-insert.ensures.items ∙ rw (at, c.from-2.ensures) (elim c.else-place-len.branch [
      | else-place-len-via-then-place-len+else-index-item w ↦
          add_absent (item, c.args.quantity) w.index.result.now totals (λ low e. w.if-index-item.false (ap (λ (t : ℕ × ℕ). t.0) w.index.ensures ∙ rw at e))
      | else-place-len-via-else-place-len w ↦ add_absent (item, c.args.quantity) (0, 0) totals (λ low. absurd (omega (arith, at, w.if-place-len.false)))
    ])
