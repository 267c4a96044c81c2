use Rattle.std.proofs.Common.{◌≡◌, [], ◌∷◌, ◌++◌, length, sym, ◌∙◌, ap, subst, arith, length-append}
use Rattle.shop_model.specs.declared.tables.Tables.{Tables}
use Rattle.shop_model.specs.rows.Rows.{OrderRow}
use Rattle.shop_model.specs.trade.Sales.{with_order}
use Rattle.shop_history.specs.MayChange.{items_of, lists_change}
use Rattle.shop_history.proofs.cited.Versions.{RaisedFor}
use Rattle.shop_book.specs.declared.auths.Auths.{Auths}
use Rattle.shop_book.specs.declared.lists.Lists.{Lists}
use Rattle.shop_book.specs.Auths.{AreAuths}
use Rattle.shop_book.specs.KeptLists.{AreLists}
use Rattle.shop_book.specs.Sales.{IsSale, AreRanked, IsRemembered}
use Rattle.shop_book.specs.Stored.{stored}
use Rattle.shop_book.proofs.SaleSteps.{are_ranked, is_remembered, last_is, auths_sold, sold_lists, raised_both}
use Rattle.shop_book.proofs.lists.Lists.sell.Goals as goal
use Rattle.shop_book.proofs.lists.Lists.sell.Goals.{After-get-coming}

-- each part speaks of its own lists alone

again : (t : Tables) (lists moved : Lists) → IsRemembered t lists → IsRemembered t (record lists { sold = moved.sold; best = moved.best; best_rows = moved.best_rows })
again t lists moved is = record { items = is.items; kept = is.kept }

still : (t : Tables) (lists moved : Lists) → AreRanked t lists → AreRanked t (record lists { recent = moved.recent })
still t lists moved are = record { items = are.items; sold = are.sold; units = are.units; best_rows = are.best_rows }

with_auths : (t : Tables) (lists : Lists) (auths : Auths) → AreRanked t lists → AreRanked t (record lists { auths = auths })
with_auths t lists auths are = record { items = are.items; sold = are.sold; units = are.units; best_rows = are.best_rows }

remembered_with : (t : Tables) (lists : Lists) (auths : Auths) → IsRemembered t lists → IsRemembered t (record lists { auths = auths })
remembered_with t lists auths is = record { items = is.items; kept = is.kept }

-- the order that came
coming_is : (c : After-get-coming) (t : Tables) (order : OrderRow) → IsSale t order c.args.rows.now → c.get-coming.result.now ≡ order
coming_is c t order sale = c.get-coming.ensures ∙ last_is t order c.args.rows.now sale c.len.result c.index.result.now (omega (arith, c.len.ensures, c.args.rows.now.orders.ok.0)) c.index.ensures

pub index-requires : goal.index-requires
index-requires c =
    let sale = c.requires.sale in
    omega (arith, c.len.ensures, c.args.rows.now.orders.ok.0, ap length sale.2.orders, length-append sale.0.orders (sale.1 ∷ []))

pub rank-requires-clause-sale : goal.rank-requires-clause-sale
rank-requires-clause-sale c =
    let sale = c.requires.sale in
    (sale.0, subst (λ (o : OrderRow). IsSale sale.0 o c.args.rows.now) (sym (coming_is (goal.at.rank-requires-clause-sale c).After-get-coming sale.0 sale.1 sale.2)) sale.2, are_ranked sale.0 c.args.self.now sale.3)

pub remember-requires-clause-sale : goal.remember-requires-clause-sale
remember-requires-clause-sale c =
    let sale = c.requires.sale in (
      sale.0,
      subst (λ (o : OrderRow). IsSale sale.0 o c.args.rows.now) (sym (coming_is (goal.at.remember-requires-clause-sale c).After-get-coming sale.0 sale.1 sale.2)) sale.2,
      subst (IsRemembered sale.0) (sym c.rank.ensures.rest) (again sale.0 c.args.self.now c.rank.new.self (is_remembered sale.0 c.args.self.now sale.3)),
    )

pub returns-clause-lists : goal.returns-clause-lists
returns-clause-lists c = λ t order sale are.
    let coming = c.get-coming.result.now in
    let is : coming ≡ order = coming_is (goal.at.returns-clause-lists c).After-get-coming t order sale in
    let here : IsSale t coming c.args.rows.now = subst (λ (o : OrderRow). IsSale t o c.args.rows.now) (sym is) sale in
    let remembered : IsRemembered t c.rank.new.self = subst (IsRemembered t) (sym c.rank.ensures.rest) (again t c.args.self.now c.rank.new.self (is_remembered t c.args.self.now are)) in
    let ranked : AreRanked (with_order t coming) c.remember.new.self = subst (AreRanked (with_order t coming)) (sym c.remember.ensures.rest) (still (with_order t coming) c.rank.new.self c.remember.new.self (c.rank.ensures.ranked t here (are_ranked t c.args.self.now are))) in
    let kept : c.remember.new.self.auths ≡ c.args.self.now.auths = ap (λ (l : Lists). l.auths) c.remember.ensures.rest ∙ ap (λ (l : Lists). l.auths) c.rank.ensures.rest in
    let auths : AreAuths (t.orders ++ coming ∷ []) c.add.new.self
    = auths_sold t.orders coming c.remember.new.self.auths c.add.new.self (subst (AreAuths t.orders) (sym kept) are.auths) c.add.ensures.added in
    subst (λ (o : OrderRow). AreLists (with_order t o) (record c.remember.new.self { auths = c.add.new.self })) is
    (sold_lists t coming c.args.self.now (record c.remember.new.self { auths = c.add.new.self }) are
    (with_auths (with_order t coming) c.remember.new.self c.add.new.self ranked)
    (remembered_with (with_order t coming) c.remember.new.self c.add.new.self (c.remember.ensures.remembered t here remembered))
    (ap (λ (l : Lists). l.newest) c.remember.ensures.rest ∙ ap (λ (l : Lists). l.newest) c.rank.ensures.rest)
    (ap (λ (l : Lists). l.newest_rows.items) c.remember.ensures.rest ∙ ap (λ (l : Lists). l.newest_rows.items) c.rank.ensures.rest)
    auths)

pub returns-clause-raised : goal.returns-clause-raised
returns-clause-raised c = λ t order sale are.
    let is : c.get-coming.result.now ≡ order = coming_is (goal.at.returns-clause-raised c).After-get-coming t order sale in
    let here : IsSale t c.get-coming.result.now c.args.rows.now = subst (λ (o : OrderRow). IsSale t o c.args.rows.now) (sym is) sale in
    let remembered : IsRemembered t c.rank.new.self = subst (IsRemembered t) (sym c.rank.ensures.rest) (again t c.args.self.now c.rank.new.self (is_remembered t c.args.self.now are)) in
    subst (λ (o : OrderRow). RaisedFor t (with_order t o) c.args.number (lists_change t o.customer (items_of o)) (stored c.args.versions.now) (stored c.remember.new.versions)) is
    (raised_both t c.get-coming.result.now c.args.number (stored c.args.versions.now) (stored c.rank.new.versions) (stored c.remember.new.versions) (c.rank.ensures.raised t here (are_ranked t c.args.self.now are)) (c.remember.ensures.raised t here remembered))
