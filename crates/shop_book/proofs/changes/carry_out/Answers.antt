use Rattle.std.proofs.Common.{◌≡◌, ℕ, [], ◌∷◌, Some, sym, ◌∙◌, subst, arith}
use Rattle.shop_model.specs.asked.AddAsked.{AddAsked}
use Rattle.shop_model.specs.declared.tables.Tables.{Tables}
use Rattle.shop_model.specs.lists.Catalogues.{naming}
use Rattle.shop_model.specs.trade.Adding.{tables_added}
use Rattle.shop_history.specs.declared.keys.Key.TheVariants as key
use Rattle.shop_history.proofs.cited.Versions.{RaisedFor}
use Rattle.shop_book.specs.declared.addition.Addition.{Addition}
use Rattle.shop_book.specs.Adding.{IsAdded}
use Rattle.shop_book.specs.Additions.{AddedItems, AreAdded}
use Rattle.shop_book.specs.Changing.{after, IsExpected}
use Rattle.shop_book.specs.KeptLists.{AreLists}
use Rattle.shop_book.specs.Planning.{IsPlanOf}
use Rattle.shop_book.specs.Stored.{stored}
use Rattle.shop_book.proofs.Doing.{named_done, compared_lists, compared_added, compared_raised, sale_done, places_done, lists_done, added_done, raised_done, mend_done, mended_lists, mended_added, mended_raised}
use Rattle.shop_book.proofs.Doing.{add_done, added_taken, added_raised}
use Rattle.shop_book.proofs.WatchingLemmas.{raised_one}
use Rattle.shop_book.proofs.changes.carry_out.Goals as goal

pub raise_changed-requires-clause-named : goal.raise_changed-requires-clause-named
raise_changed-requires-clause-named c = named_done c.args.rows.now c.args.lists.now c.args.plan c.requires.done

pub returns-in-Compare-clause-lists : goal.returns-in-Compare-clause-lists
returns-in-Compare-clause-lists c = λ t a stamp done.
    compared_lists t a stamp c.args.rows.now c.args.lists.now c.args.plan done c.in-Compare.watched.items (subst (IsPlanOf t a) c.in-Compare.is done.plan_is)

pub returns-in-Compare-clause-raised : goal.returns-in-Compare-clause-raised
returns-in-Compare-clause-raised c = λ t a stamp done kept.
    compared_raised t a stamp c.args.rows.now c.args.lists.now c.args.plan done c.in-Compare.watched.items (subst (IsPlanOf t a) c.in-Compare.is done.plan_is) c.args.number (stored c.args.versions.now) (stored c.raise_changed.new.versions) c.raise_changed.ensures.raised

pub returns-in-One-clause-lists : goal.returns-in-One-clause-lists
returns-in-One-clause-lists c = λ t a stamp done.
    compared_lists t a stamp c.args.rows.now c.args.lists.now c.args.plan done (c.in-One.kept ∷ []) (subst (IsPlanOf t a) c.in-One.is done.plan_is)

pub returns-in-One-clause-raised : goal.returns-in-One-clause-raised
returns-in-One-clause-raised c = λ t a stamp done kept.
    compared_raised t a stamp c.args.rows.now c.args.lists.now c.args.plan done (c.in-One.kept ∷ []) (subst (IsPlanOf t a) c.in-One.is done.plan_is) c.args.number (stored c.args.versions.now) (stored c.raise_if_changed.new.versions)
    (λ before u are. raised_one before u c.args.rows.now c.args.number c.args.versions.now c.raise_if_changed.new.versions c.in-One.kept (are 0 c.in-One.kept (omega arith)) c.raise_if_changed.ensures.raised)

pub returns-in-Compare-clause-added : goal.returns-in-Compare-clause-added
returns-in-Compare-clause-added c = λ t a stamp done are.
    subst (AreAdded (after t stamp a)) (sym c.raise_changed.ensures.added)
    (compared_added t a stamp c.args.rows.now c.args.lists.now c.args.plan done c.in-Compare.watched.items (subst (IsPlanOf t a) c.in-Compare.is done.plan_is) c.args.versions.now.added are)

pub returns-in-One-clause-added : goal.returns-in-One-clause-added
returns-in-One-clause-added c = λ t a stamp done are.
    subst (AreAdded (after t stamp a)) (sym c.raise_if_changed.ensures.places.added)
    (compared_added t a stamp c.args.rows.now c.args.lists.now c.args.plan done (c.in-One.kept ∷ []) (subst (IsPlanOf t a) c.in-One.is done.plan_is) c.args.versions.now.added are)

pub returns-in-Sell-clause-added : goal.returns-in-Sell-clause-added
returns-in-Sell-clause-added c = λ t a stamp done are.
    subst (AreAdded (after t stamp a)) (sym (c.sell.ensures.places.added ∙ c.raise_all.ensures.places.added))
    (added_done t a stamp c.args.rows.now c.args.lists.now c.args.plan c.in-Sell.keys c.in-Sell.is done c.args.versions.now.added are)

pub returns-in-Mend-clause-added : goal.returns-in-Mend-clause-added
returns-in-Mend-clause-added c = λ t a stamp done are.
    subst (AreAdded (after t stamp a)) (sym (c.mend.ensures.places.added ∙ c.raise_if_changed-in-Mend.ensures.places.added))
    (mended_added t a stamp c.args.rows.now c.args.lists.now c.args.plan c.in-Mend.item c.in-Mend.row c.in-Mend.is done c.args.versions.now.added are)

pub raise_all-requires-clause-places : goal.raise_all-requires-clause-places
raise_all-requires-clause-places c =
    let done = c.requires.done in
    places_done done.0 done.1 done.2 c.args.rows.now c.args.lists.now c.args.plan c.in-Sell.keys c.in-Sell.is done.3 c.args.versions.now c.requires.places

pub sell-requires-clause-sale : goal.sell-requires-clause-sale
sell-requires-clause-sale c =
    let done = c.requires.done in
    let sale = sale_done done.0 done.1 done.2 c.args.rows.now c.args.lists.now c.args.plan c.in-Sell.keys c.in-Sell.is done.3 in
    sale

pub returns-in-Sell-clause-lists : goal.returns-in-Sell-clause-lists
returns-in-Sell-clause-lists c = λ t a stamp done.
    lists_done t a stamp c.args.rows.now c.args.lists.now c.args.plan c.in-Sell.keys c.in-Sell.is done c.sell.new.self c.sell.ensures.lists

pub returns-in-Sell-clause-raised : goal.returns-in-Sell-clause-raised
returns-in-Sell-clause-raised c = λ t a stamp done kept.
    raised_done t a stamp c.args.rows.now c.args.lists.now c.args.plan c.in-Sell.keys c.in-Sell.is done c.args.number (stored c.args.versions.now) (stored c.raise_all.new.versions) (stored c.sell.new.versions)
    c.raise_all.ensures.raised c.sell.ensures.raised

pub raise_if_changed-requires-clause-named : goal.raise_if_changed-requires-clause-named
raise_if_changed-requires-clause-named c = named_done c.args.rows.now c.args.lists.now c.args.plan c.requires.done

pub mend-requires-clause-mended : goal.mend-requires-clause-mended
mend-requires-clause-mended c =
    let done = c.requires.done in
    mend_done done.0 done.1 done.2 c.args.rows.now c.args.lists.now c.args.plan c.in-Mend.item c.in-Mend.row c.in-Mend.is done.3

pub returns-in-Mend-clause-lists : goal.returns-in-Mend-clause-lists
returns-in-Mend-clause-lists c = λ t a stamp done.
    mended_lists t a stamp c.args.rows.now c.args.lists.now c.args.plan c.in-Mend.item c.in-Mend.row c.in-Mend.is done c.mend.new.self c.mend.ensures.lists

pub returns-in-Mend-clause-raised : goal.returns-in-Mend-clause-raised
returns-in-Mend-clause-raised c = λ t a stamp done kept.
    mended_raised t a stamp c.args.rows.now c.args.lists.now c.args.plan c.in-Mend.item c.in-Mend.row c.in-Mend.is done c.args.number c.args.versions.now c.raise_if_changed-in-Mend.new.versions (stored c.mend.new.versions)
    c.raise_if_changed-in-Mend.ensures.raised c.mend.ensures.raised

pub add-requires-clause-added : goal.add-requires-clause-added
add-requires-clause-added c =
    let done = c.requires.done in
    subst (λ (a : Addition). (u : Tables) × (s : ℕ) × (asked : AddAsked) × IsAdded u s asked a c.args.rows.now × AreLists u c.args.lists.now) (sym c.into_inner.ensures)
    (add_done done.0 done.1 done.2 c.args.rows.now c.args.lists.now c.args.plan c.in-Add.addition c.in-Add.is done.3)

pub returns-in-Add-clause-added : goal.returns-in-Add-clause-added
returns-in-Add-clause-added c = λ t a stamp done are.
    subst (AreAdded (after t stamp a)) (sym c.add.ensures.places.added)
    (added_taken t a stamp c.args.rows.now c.args.lists.now c.args.plan c.in-Add.addition c.in-Add.is done c.args.number c.raise.new.self.added c.take.new.self
    (subst (AreAdded t) (sym c.raise.ensures.places.added) are)
    (subst (λ (k : AddedItems). k.room ≡ Some (naming c.in-Add.addition.item)) (sym c.raise.ensures.places.added) (subst (IsExpected c.args.versions.now) c.in-Add.is c.requires.expected))
    c.take.ensures)

pub returns-in-Add-clause-raised : goal.returns-in-Add-clause-raised
returns-in-Add-clause-raised c = λ t a stamp done are.
    added_raised t a stamp c.args.rows.now c.args.lists.now c.args.plan c.in-Add.addition c.in-Add.is done c.args.number c.len.result c.args.versions.now c.raise.new.self c.take.new.self (stored c.add.new.versions) are
    (subst (IsExpected c.args.versions.now) c.in-Add.is c.requires.expected) c.raise.ensures.places.added c.take.ensures (omega (arith, c.len.ensures, c.args.rows.now.items.ok.0)) c.raise.ensures.here c.raise.ensures.others
    (subst (λ (x : Addition). (u : Tables) (s : ℕ) (asked : AddAsked) → IsAdded u s asked x c.args.rows.now → AreLists u c.args.lists.now
    → RaisedFor u (tables_added u s asked) c.args.number (key.NewIn asked.subject ∷ []) (stored (record c.raise.new.self { added = c.take.new.self })) (stored c.add.new.versions)) c.into_inner.ensures c.add.ensures.raised)
