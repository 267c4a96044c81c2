use Rattle.std.proofs.Common.{◌≡◌, List, [], ◌∷◌, ap, ◌∙◌, sym, subst}
use Rattle.std.specs.Prelude.{All}
use Rattle.std.proofs.lemmas.List.Elements.{All-nil, All-cons}
use Rattle.shop_model.specs.declared.buying.Buyer.TheVariants.{Newcomer}
use Rattle.shop_model.specs.asked.CustomersAsked.{LoginAsked}
use Rattle.shop_model.specs.declared.tables.Tables.{Tables}
use Rattle.shop_model.specs.trade.Buyers.{customer_named}
use Rattle.shop_model.specs.rows.Empty.{no_tables}
use Rattle.shop_history.specs.declared.acts.Act.TheVariants as act
use Rattle.shop_history.specs.declared.keys.Key.{Key}
use Rattle.shop_history.specs.Keys.{row_of}
use Rattle.shop_history.specs.MayChange.{buyer_changes, login_changes}
use Rattle.shop_book.specs.declared.watching.Watched.{Watched}
use Rattle.shop_book.specs.RowsNow.{tables_with}
use Rattle.shop_book.specs.Watching.{AreOf, IsWatchable, keys_of}
use Rattle.shop_book.proofs.WatchingLemmas.{buyer_compared, may_change_watchable}
use Rattle.shop_book.proofs.plan.Plan.of.Goals as goal

-- those of who logs in
abbrev asked_changes : Tables → LoginAsked → List Key
asked_changes t login = login_changes (customer_named t login.user)

pub watch_one-requires-in-Some-clause-kind : goal.watch_one-requires-in-Some-clause-kind
watch_one-requires-in-Some-clause-kind c = c.in-Some.ensures.kind

pub watch-requires-clause-kinds : goal.watch-requires-clause-kinds
watch-requires-clause-kinds c =
    subst (All IsWatchable) (sym (c.in_ok-keys-in-Newcomer.ensures.keys no_tables))
    (may_change_watchable (tables_with no_tables c.args.rows.now) (act.Enter (record { cart = 0; buyer = Newcomer c.get-in-Newcomer.result.now }) 0) tt)

pub returns-in_ok-watch_one-in-Some-clause-plan : goal.returns-in_ok-watch_one-in-Some-clause-plan
returns-in_ok-watch_one-in-Some-clause-plan c = λ t.
    let u = tables_with t c.args.rows.now in
    let one : Watched = c.in_ok-watch_one-in-Some.field-0 in
    let is = c.in_ok-watch_one-in-Some.ensures in
    buyer_compared u c.args.act.now c.in-Enter.asked c.in-Enter.field-1 c.in-Enter.is (one ∷ [])
    (ap (λ (k : Key). k ∷ []) is.key ∙ c.in-Some.ensures.key t ∙ ap (asked_changes u) c.get.ensures ∙ sym (ap (buyer_changes u) c.in-Returning.is))
    (All-cons (λ (w : Watched). w.row ≡ row_of u w.key) one [] (is.row t ∙ ap (row_of u) (sym is.key)) (All-nil (λ (w : Watched). w.row ≡ row_of u w.key)))

pub returns-in-None-clause-plan : goal.returns-in-None-clause-plan
returns-in-None-clause-plan c = λ t.
    let u = tables_with t c.args.rows.now in
    let none = c.new.ensures.items in
    buyer_compared u c.args.act.now c.in-Enter.asked c.in-Enter.field-1 c.in-Enter.is c.new.result.items
    (ap keys_of none ∙ c.in-None.ensures.key t ∙ ap (asked_changes u) c.get.ensures ∙ sym (ap (buyer_changes u) c.in-Returning.is))
    (subst (AreOf u) (sym none) (All-nil (λ (w : Watched). w.row ≡ row_of u w.key)))
