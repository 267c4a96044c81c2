use Rattle.std.proofs.Common.{◌≡◌, ℕ, List, [], ◌++◌, length, Option, option_map, sym, ◌∙◌, ap, subst, arith}
use Rattle.std.specs.Prelude.{IfSome}
use Rattle.shop_model.specs.declared.subject.Subject.{Subject}
use Rattle.shop_model.specs.declared.tables.Tables.{Tables}
use Rattle.shop_model.specs.lists.Rankings.{best}
use Rattle.shop_model.specs.lists.Related.{units_in_orders}
use Rattle.shop_model.specs.rows.Limits.{counted_orders}
use Rattle.shop_model.specs.rows.Rows.{ItemRow, OrderRow}
use Rattle.shop_history.specs.declared.keys.Key.{Key}
use Rattle.shop_history.specs.MayChange.{leaving, items_of}
use Rattle.shop_ranking.specs.StandingBest.{Units, standing_best}
use Rattle.shop_book.specs.Sales.{IsSale, AreRanked, AreThere, Bumps, Renews, subjects_in, gone_items, gone_subjects}
use Rattle.shop_book.specs.Stored.{stored}
use Rattle.shop_book.proofs.SaleSteps.{admitted, found_is, gone_there, items_size, units_size, some_mapped, nothing_set, nothing_listed, items_kept, ranked_units, ranked_rows, ranked_raised}
use Rattle.shop_book.proofs.WindowMoves.{window_after}
use Rattle.shop_book.proofs.lists.Lists.rank.Goals as goal
use Rattle.shop_book.proofs.lists.Lists.rank.Goals.{After-order_with-gone, After-bump_gone, After-renew_gone}

-- which order leaves
gone_now : (c : After-order_with-gone) (t : Tables) → IsSale t c.args.coming.now c.args.rows.now → AreRanked t c.args.self.now
    → option_map (λ order. order.now) c.order_with-gone.result ≡ leaving counted_orders t.orders
gone_now c t sale ranked = found_is t c.args.coming.now c.args.rows.now sale counted_orders c.args.self.now.sold.kept c.deref.result.now c.admit.result (option_map (λ order. order.now) c.order_with-gone.result) (omega arith) ranked.sold c.deref.ensures.value c.admit.ensures.gone c.order_with-gone.ensures

-- all units that change are set
bumps : (c : After-bump_gone) (t : Tables) → IsSale t c.args.coming.now c.args.rows.now → AreRanked t c.args.self.now → (was : Units) (done : List ℕ)
    → Bumps (λ item. units_in_orders item c.admit.new.window.kept) was done c.args.self.now.best
    → Bumps (λ item. units_in_orders item c.admit.new.window.kept) was ((done ++ items_of c.args.coming.now) ++ gone_items (leaving counted_orders t.orders)) c.bump_gone.new.best
bumps c t sale ranked was done before =
    subst (λ (gone : Option OrderRow). Bumps (λ item. units_in_orders item c.admit.new.window.kept) was ((done ++ items_of c.args.coming.now) ++ gone_items gone) c.bump_gone.new.best)
    (found_is t c.args.coming.now c.args.rows.now sale counted_orders c.args.self.now.sold.kept c.deref.result.now c.admit.result (option_map (λ order. order.now) c.order_with-gone.result) (omega arith) ranked.sold c.deref.ensures.value c.admit.ensures.gone c.order_with-gone.ensures)
    (c.bump_gone.ensures was (done ++ items_of c.args.coming.now) (c.bump_items.ensures was done before))

-- and all lists that may
renews : (c : After-renew_gone) (t : Tables) → IsSale t c.args.coming.now c.args.rows.now → AreRanked t c.args.self.now → (was : Subject → List ℕ) (first : Key → ℕ) (done : List Subject)
    → Renews was (standing_best c.bump_gone.new.best) c.args.number done c.args.self.now.best_rows.items first (stored c.args.versions.now)
    → Renews was (standing_best c.bump_gone.new.best) c.args.number ((done ++ subjects_in c.args.rows.now.items.items c.args.coming.now) ++ gone_subjects c.args.rows.now.items.items (leaving counted_orders t.orders))
    c.renew_gone.new.lists.items first (stored c.renew_gone.new.versions)
renews c t sale ranked was first done before =
    subst (λ (gone : Option OrderRow). Renews was (standing_best c.bump_gone.new.best) c.args.number ((done ++ subjects_in c.args.rows.now.items.items c.args.coming.now) ++ gone_subjects c.args.rows.now.items.items gone)
    c.renew_gone.new.lists.items first (stored c.renew_gone.new.versions))
    (found_is t c.args.coming.now c.args.rows.now sale counted_orders c.args.self.now.sold.kept c.deref.result.now c.admit.result (option_map (λ order. order.now) c.order_with-gone.result) (omega arith) ranked.sold c.deref.ensures.value c.admit.ensures.gone c.order_with-gone.ensures)
    (subst (λ (items : List ItemRow). Renews was (standing_best c.bump_gone.new.best) c.args.number ((done ++ subjects_in c.args.rows.now.items.items c.args.coming.now) ++ gone_subjects items (option_map (λ order. order.now) c.order_with-gone.result))
    c.renew_gone.new.lists.items first (stored c.renew_gone.new.versions)) c.deref-3.ensures.value
    (c.renew_gone.ensures.renewed was first (done ++ subjects_in c.args.rows.now.items.items c.args.coming.now)
    (subst (λ (items : List ItemRow). Renews was (standing_best c.bump_gone.new.best) c.args.number (done ++ subjects_in items c.args.coming.now) c.renew_lists.new.lists.items first (stored c.renew_lists.new.versions)) c.deref-2.ensures.value
    (c.renew_lists.ensures.renewed was first done before))))

pub bump_items-requires : goal.bump_items-requires
bump_items-requires c =
    let sale = c.requires.sale in
    subst (λ n. AreThere n c.args.coming.now) (sym (units_size sale.0 c.args.coming.now c.args.rows.now sale.1 c.args.self.now sale.2)) sale.1.there

pub bump_gone-requires : goal.bump_gone-requires
bump_gone-requires c =
    let sale = c.requires.sale in
    let set = c.bump_items.ensures c.args.self.now.best [] (nothing_set (λ item. units_in_orders item c.admit.new.window.kept) c.args.self.now.best) in
    let size : length c.bump_items.new.best.units ≡ length sale.0.items = set.size ∙ units_size sale.0 c.args.coming.now c.args.rows.now sale.1 c.args.self.now sale.2 in
    some_mapped (λ order. order.now) (AreThere (length c.bump_items.new.best.units)) c.order_with-gone.result
    (subst (λ (gone : Option OrderRow). IfSome gone (AreThere (length c.bump_items.new.best.units))) (sym (gone_now (goal.at.bump_gone-requires c).After-order_with-gone sale.0 sale.1 sale.2))
    (subst (λ n. IfSome (leaving counted_orders sale.0.orders) (AreThere n)) (sym size) (gone_there sale.0 c.args.coming.now c.args.rows.now sale.1 counted_orders)))

pub returns-clause-ranked : goal.returns-clause-ranked
returns-clause-ranked c = λ t sale ranked. record {
  items = omega (arith, c.admit.ensures.items, ranked.items, items_kept t c.args.coming.now c.args.rows.now sale);
  sold = window_after counted_orders t.orders c.args.coming.now c.args.self.now.sold.kept c.admit.new.window.kept ranked.sold c.admit.ensures.kept;
  units = ranked_units t c.args.coming.now c.args.rows.now sale c.args.self.now ranked c.admit.new.window.kept c.admit.ensures.kept c.bump_gone.new.best (bumps (goal.at.returns-clause-ranked c).After-bump_gone t sale ranked);
  best_rows = ranked_rows t c.args.coming.now c.args.rows.now sale c.args.self.now ranked c.admit.new.window.kept c.admit.ensures.kept c.bump_gone.new.best (bumps (goal.at.returns-clause-ranked c).After-bump_gone t sale ranked)
      c.args.number c.renew_gone.new.lists.items (stored c.args.versions.now) (stored c.renew_gone.new.versions) (renews c t sale ranked);
}

pub returns-clause-raised : goal.returns-clause-raised
returns-clause-raised c = λ t sale ranked.
    ranked_raised t c.args.coming.now c.args.rows.now sale c.args.self.now ranked c.admit.new.window.kept c.admit.ensures.kept c.bump_gone.new.best (bumps (goal.at.returns-clause-raised c).After-bump_gone t sale ranked)
    c.args.number c.renew_gone.new.lists.items (stored c.args.versions.now) (stored c.renew_gone.new.versions) (renews c t sale ranked)

pub renew_lists-requires-clause-size : goal.renew_lists-requires-clause-size
renew_lists-requires-clause-size c =
    let sale = c.requires.sale in
    (nothing_listed sale.0 c.args.self.now sale.2 (standing_best c.bump_gone.new.best) c.args.number (stored c.args.versions.now)).size

pub renew_lists-requires-clause-items : goal.renew_lists-requires-clause-items
renew_lists-requires-clause-items c =
    let sale = c.requires.sale in
    let size : length c.deref-2.result.now ≡ length sale.0.items = ap length c.deref-2.ensures.value ∙ items_size sale.0 c.args.coming.now c.args.rows.now sale.1 in
    subst (λ n. AreThere n c.args.coming.now) (sym size) sale.1.there

pub renew_gone-requires-clause-size : goal.renew_gone-requires-clause-size
renew_gone-requires-clause-size c =
    let sale = c.requires.sale in
    (c.renew_lists.ensures.renewed (best sale.0) (stored c.args.versions.now) [] (nothing_listed sale.0 c.args.self.now sale.2 (standing_best c.bump_gone.new.best) c.args.number (stored c.args.versions.now))).size

pub renew_gone-requires-clause-items : goal.renew_gone-requires-clause-items
renew_gone-requires-clause-items c =
    let sale = c.requires.sale in
    let size : length c.deref-3.result.now ≡ length sale.0.items = ap length c.deref-3.ensures.value ∙ items_size sale.0 c.args.coming.now c.args.rows.now sale.1 in
    some_mapped (λ order. order.now) (AreThere (length c.deref-3.result.now)) c.order_with-gone.result
    (subst (λ (gone : Option OrderRow). IfSome gone (AreThere (length c.deref-3.result.now))) (sym (gone_now (goal.at.renew_gone-requires-clause-items c).After-order_with-gone sale.0 sale.1 sale.2))
    (subst (λ n. IfSome (leaving counted_orders sale.0.orders) (AreThere n)) (sym size) (gone_there sale.0 c.args.coming.now c.args.rows.now sale.1 counted_orders)))

pub admit-requires : goal.admit-requires
admit-requires c =
    let sale = c.requires.sale in
    (omega arith, (omega arith, (omega arith, (admitted sale.0 c.args.coming.now c.args.rows.now sale.1 c.args.self.now.sold.items sale.2.items, c.requires.room))))
