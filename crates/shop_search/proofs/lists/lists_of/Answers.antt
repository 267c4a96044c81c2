use Rattle.std.proofs.Common.{◌≡◌, ◌∙◌, arith, ap}
use Rattle.shop_model.specs.lists.Catalogues.{Naming, naming}
use Rattle.shop_model.specs.rows.Rows.{ItemRow}
use Rattle.shop_search.specs.Keys.{keys_of}
use Rattle.shop_search.proofs.Filling.{item_listed}
use Rattle.shop_search.proofs.lists.lists_of.Goals as goal

pub loop-ranked-preserved : goal.loop-ranked-preserved
loop-ranked-preserved c =
    let item : naming c.ranked.inside.item.now ≡ c.ranked-item.result = c.ranked.view_is in
    let keys : c.deref.result.now ≡ keys_of c.args.authors.now c.args.kind c.ranked-item.result =
    c.deref.ensures.value ∙ c.in_ok-keys.ensures ∙ ap (keys_of c.args.authors.now c.args.kind) item in
    let id : c.item.inside.id ≡ c.ranked-item.result.id =
    ap (λ (r : ItemRow). r.id) c.item.view_is ∙ ap (λ (n : Naming). n.id) item in
    item_listed c.args.authors.now c.args.kind c.args.listed.now c.loop-ranked.ranked-index c.ranked-item.result
    (omega arith) c.ranked-item.is c.loop-ranked.invariant (rw (keys, id) at c.in_ok-add_all.ensures)
