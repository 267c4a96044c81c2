use Rattle.std.proofs.Common.{List, [], ◌∷◌, ◌++◌, ◌+◌, get_or, drop, sym, ◌∙◌, ap, append_assoc}
use Rattle.std.proofs.lemmas.List.{drop_more}
use Rattle.shop_history.specs.declared.keys.Key.{Key}
use Rattle.shop_browse.specs.Names.{label_keys}
use Rattle.shop_browse.proofs.NamesLemmas.{label_keys_more}
use Rattle.shop_browse.proofs.names.label_keys.Goals as goal

pub loop-item-preserved : goal.loop-item-preserved
loop-item-preserved c =
    let index = c.args.index.now in
    let items = c.args.items.now in
    let at = c.loop-item.item-index in
    ap (λ (l : List Key). l ++ label_keys index (drop (at + 1) items)) c.in_ok-add_label_key.ensures
    ∙ append_assoc c.loop-item.keys (label_keys index (get_or items at 0 ∷ [])) (label_keys index (drop (at + 1) items))
    ∙ ap (λ (l : List Key). c.loop-item.keys ++ l) (sym (ap (label_keys index) (drop_more items at 0 c.loop-item-test.true) ∙ label_keys_more index (get_or items at 0) (drop (at + 1) items)))
    ∙ c.loop-item.invariant
