use Rattle.std.proofs.Common.{◌≡◌, ◌≤◌, length, Option, option_map, sym, subst, arith}
use Rattle.std.specs.Prelude.{IfSome}
use Rattle.shop_model.specs.declared.tables.Tables.{Tables}
use Rattle.shop_model.specs.rows.Limits.{recent_orders}
use Rattle.shop_model.specs.rows.Rows.{OrderRow}
use Rattle.shop_history.specs.MayChange.{leaving, items_of}
use Rattle.shop_book.specs.Sales.{IsSale, IsRemembered, AreThere, BuysElse, RaisesBuyers, RaisesBought, RaisesGone, has_bought}
use Rattle.shop_book.specs.Stored.{stored, numbers}
use Rattle.shop_book.proofs.RememberedSales.{remembered_raised}
use Rattle.shop_book.proofs.SaleSteps.{admitted, found_is, items_kept, some_mapped, gone_lines, wide, wide_gone}
use Rattle.shop_book.proofs.WindowMoves.{window_after}
use Rattle.shop_book.proofs.lists.Lists.remember.Goals as goal
use Rattle.shop_book.proofs.lists.Lists.remember.Goals.{After-order_with-gone}

-- which order leaves
gone_now : (c : After-order_with-gone) (t : Tables) → IsSale t c.args.coming.now c.args.rows.now → IsRemembered t c.args.self.now
    → option_map (λ order. order.now) c.order_with-gone.result ≡ leaving recent_orders t.orders
gone_now c t sale remembered = found_is t c.args.coming.now c.args.rows.now sale recent_orders c.args.self.now.recent.kept c.deref.result.now c.admit.result (option_map (λ order. order.now) c.order_with-gone.result) (omega arith) remembered.kept c.deref.ensures.value c.admit.ensures.gone c.order_with-gone.ensures

pub raise_buyers-requires : goal.raise_buyers-requires
raise_buyers-requires c =
    let sale = c.requires.sale in
    wide sale.0 c.args.coming.now c.args.rows.now sale.1 c.args.coming.now (length (numbers c.args.versions.now 6)) (c.requires.places.each 6) sale.1.there

pub raise_gone-requires : goal.raise_gone-requires
raise_gone-requires c =
    let sale = c.requires.sale in
    let size : length c.args.rows.now.items.items ≤ length (numbers c.raise_buyers.new.versions 6) = omega (arith, c.requires.places.each 6, c.raise_buyers.ensures.places.each 6) in
    some_mapped (λ order. order.now) (AreThere (length (numbers c.raise_buyers.new.versions 6))) c.order_with-gone.result
    (subst (λ (gone : Option OrderRow). IfSome gone (AreThere (length (numbers c.raise_buyers.new.versions 6)))) (sym (gone_now (goal.at.raise_gone-requires c).After-order_with-gone sale.0 sale.1 sale.2))
    (wide_gone sale.0 c.args.coming.now c.args.rows.now sale.1 recent_orders (length (numbers c.raise_buyers.new.versions 6)) size))

pub returns-clause-remembered : goal.returns-clause-remembered
returns-clause-remembered c = λ t sale remembered. record {
  items = omega (arith, c.admit.ensures.items, remembered.items, items_kept t c.args.coming.now c.args.rows.now sale);
  kept = window_after recent_orders t.orders c.args.coming.now c.args.self.now.recent.kept c.admit.new.window.kept remembered.kept c.admit.ensures.kept;
}

pub returns-clause-raised : goal.returns-clause-raised
returns-clause-raised c = λ t sale remembered.
    let gone : option_map (λ order. order.now) c.order_with-gone.result ≡ leaving recent_orders t.orders = gone_now (goal.at.returns-clause-raised c).After-order_with-gone t sale remembered in
    let after_kept = window_after recent_orders t.orders c.args.coming.now c.args.self.now.recent.kept c.admit.new.window.kept remembered.kept c.admit.ensures.kept in
    remembered_raised t sale.sound c.args.coming.now sale.lines c.args.number (stored c.args.versions.now) (stored c.raise_buyers.new.versions) (stored c.raise_gone.new.versions) (stored c.raise_bought.new.versions)
    (subst (λ kept. RaisesBuyers (has_bought kept c.args.coming.now.customer) (items_of c.args.coming.now) c.args.number (stored c.args.versions.now) (stored c.raise_buyers.new.versions)) remembered.kept c.raise_buyers.ensures.raised)
    (gone_lines t c.args.coming.now c.args.rows.now sale recent_orders)
    (subst (λ kept. RaisesGone kept (leaving recent_orders t.orders) c.args.number (stored c.raise_buyers.new.versions) (stored c.raise_gone.new.versions)) after_kept
    (subst (λ (o : Option OrderRow). RaisesGone c.admit.new.window.kept o c.args.number (stored c.raise_buyers.new.versions) (stored c.raise_gone.new.versions)) gone c.raise_gone.ensures.raised))
    (subst (λ (o : Option OrderRow). RaisesBought (BuysElse c.args.coming.now o) c.args.number (stored c.raise_gone.new.versions) (stored c.raise_bought.new.versions)) gone c.raise_bought.ensures.raised)

pub admit-requires : goal.admit-requires
admit-requires c =
    let sale = c.requires.sale in
    (omega arith, (omega arith, (omega arith, (admitted sale.0 c.args.coming.now c.args.rows.now sale.1 c.args.self.now.recent.items sale.2.items, c.requires.room))))
