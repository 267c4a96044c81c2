use Rattle.std.proofs.Common.{◌≡◌, List, [], ◌∷◌, ◌++◌, map, ◌∙◌, ap, ap₂, subst}
use Rattle.shop_model.specs.declared.tables.Tables.{Tables}
use Rattle.shop_model.specs.lists.Related.{units_in_orders}
use Rattle.shop_model.specs.rows.Rows.{ItemRow}
use Rattle.shop_model.specs.trade.Adding.{tables_added}
use Rattle.shop_book.specs.KeptLists.{UnitsAre}
use Rattle.shop_book.specs.RowsNow.{tables_with}
use Rattle.shop_book.proofs.AddedLists.{runs_behind, is_addition}
use Rattle.shop_book.proofs.addition.Addition.of.Goals as goal
use Rattle.shop_book.proofs.addition.Addition.of.Goals.{After-push}

-- the item stands behind the others
items_are : (c : After-push) → c.push.new.self.items ≡ c.in_ok-items.items.items ++ c.in_ok-share.field-0 ∷ [] → (t : Tables) → c.push.new.self.items ≡ (tables_added (tables_with t c.args.rows.now) 0 c.args.asked.now).items
items_are c pushed t =
    pushed
    ∙ ap₂ (λ (xs : List ItemRow) (x : ItemRow). xs ++ x ∷ []) (c.in_ok-items.ensures ∙ c.deref.ensures.value) (c.in_ok-share.ensures ∙ c.in_ok-item.ensures.item t)

pub best_of-requires : goal.best_of-requires
best_of-requires c =
    let at = (goal.at.best_of-requires c).After-push in
    runs_behind c.args.rows.now c.requires.rows c.args.asked.now c.deref-2.result.now (λ t. c.deref-2.ensures.value ∙ items_are at c.in_ok-push.ensures.items t)

pub new-requires : goal.new-requires
new-requires c =
    let at = (goal.at.new-requires c).After-push in
    runs_behind c.args.rows.now c.requires.rows c.args.asked.now c.deref-3.result.now (λ t. c.deref-3.ensures.value ∙ items_are at c.in_ok-push.ensures.items t)

pub returns-clause-addition : goal.returns-clause-addition
returns-clause-addition c = λ t.
    let at = (goal.at.returns-clause-addition c).After-push in
    is_addition (tables_with t c.args.rows.now) c.args.asked.now (record { item = c.in_ok-item.item; best = c.in_ok-best.best; newest = c.in_ok-newest.newest }) c.push.new.self.items c.args.sold.now.kept
    (c.in_ok-item.ensures.item t) (items_are at c.in_ok-push.ensures.items t) c.requires.sold
    (subst (λ (items : List ItemRow). UnitsAre items (λ item. units_in_orders item c.args.sold.now.kept) c.in_ok-best.best) c.deref-2.ensures.value c.in_ok-best.ensures)
    (c.in_ok-newest.ensures.subjects ∙ ap (map (λ (i : ItemRow). i.subject)) c.deref-3.ensures.value)
    (c.in_ok-newest.ensures.titles ∙ ap (map (λ (i : ItemRow). i.title)) c.deref-3.ensures.value)
    (c.in_ok-newest.ensures.days ∙ ap (map (λ (i : ItemRow). i.published)) c.deref-3.ensures.value)
