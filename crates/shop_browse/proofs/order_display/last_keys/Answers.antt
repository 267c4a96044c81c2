use Rattle.std.proofs.Common.{◌≡◌, List, ℕ, [], ◌∷◌, ◌++◌, ◌+◌, drop, sym, ◌∙◌, ap, append_assoc}
use Rattle.std.proofs.lemmas.List.{drop_more}
use Rattle.shop_model.specs.rows.Rows.{LineRow}
use Rattle.shop_history.specs.declared.keys.Key.{Key}
use Rattle.shop_browse.specs.Names.{label_keys}
use Rattle.shop_browse.specs.OrderDisplay.{items_of}
use Rattle.shop_browse.proofs.NamesLemmas.{label_keys_more}
use Rattle.shop_browse.proofs.order_display.last_keys.Goals as goal

pub loop-line-preserved : goal.loop-line-preserved
loop-line-preserved c =
    let index = c.args.index.now in
    let lines = c.args.lines.now in
    let at = c.loop-line.line-index in
    let item = c.line.inside.item in
    let left : List ℕ = items_of (drop (at + 1) lines) in
    let first : items_of (drop at lines) ≡ item ∷ left
    = ap items_of (drop_more lines at c.line-item.result c.loop-line-test.true) ∙ ap (λ (l : LineRow). l.item ∷ left) (sym c.line-item.is ∙ sym c.line.view_is) in
    ap (λ (l : List Key). l ++ label_keys index left) c.in_ok-add_label_key.ensures
    ∙ append_assoc c.loop-line.keys (label_keys index (item ∷ [])) (label_keys index left)
    ∙ ap (λ (l : List Key). c.loop-line.keys ++ l) (sym (ap (label_keys index) first ∙ label_keys_more index item left))
    ∙ c.loop-line.invariant
