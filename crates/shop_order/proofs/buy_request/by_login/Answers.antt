use Rattle.std.proofs.Common.{◌≡◌, List, [], ◌∷◌, None, refl, sym, ◌∙◌, ap, subst}
use Rattle.std.proofs.lemmas.Result.{IfOk-weaker}
use Rattle.shop_model.specs.declared.requests.Request.TheVariants.{BuyRequest}
use Rattle.shop_model.specs.asked.CustomersAsked.{LoginAsked}
use Rattle.shop_model.specs.pages.BuyRequest.{buy_request}
use Rattle.shop_model.specs.rows.Rows.{CountryRow, CustomerRow}
use Rattle.shop_model.specs.trade.Buyers.{check_password, logged_in}
use Rattle.shop_history.specs.declared.acts.Act.{Act}
use Rattle.shop_history.specs.declared.acts.Act.TheVariants.{Enter}
use Rattle.shop_history.specs.declared.keys.Key.TheVariants.{Address}
use Rattle.shop_history.specs.declared.keys.Row.TheVariants.{Customer}
use Rattle.shop_draft.specs.Pages.{IsPage}
use Rattle.shop_attempt.specs.declared.attempts.ReadOf.{ReadOf}
use Rattle.shop_attempt.specs.declared.attempts.Write.{Write}
use Rattle.shop_attempt.specs.declared.attempts.Write.TheVariants.{Login}
use Rattle.shop_attempt.specs.Reads.{Shows}
use Rattle.shop_browse.specs.Baskets.{country_read}
use Rattle.shop_browse.specs.Driver.{AsksFor, IsChange}
use Rattle.shop_order.specs.BuyRequest.{HasHome, FollowsBuy}
use Rattle.shop_order.specs.ShoppingCart.{AreItems}
use Rattle.shop_order.specs.Stops.{StopsBy}
use Rattle.shop_order.proofs.StopsLemmas.{stopped_next}
use Rattle.shop_order.proofs.BuyRequestLemmas.{has_most, asks_home, asks_country, has_country}
use Rattle.shop_order.proofs.ReadsLemmas.{last_read}
use Rattle.shop_order.proofs.BuyersLemmas.{has_customer, at_customer, is_customer, at_items, login_stops, home_is, home_may, at_country, country_there, logs_in}
use Rattle.shop_order.proofs.buy_request.by_login.Goals as goal

pub returns-in-Err : goal.returns-in-Err
returns-in-Err c =
    let asked = c.args.asked.now in
    let login = c.args.login.now in
    let ask = c.args.ask.now in
    let gathered = c.args.gathered.now in
    let reads = gathered.reads.now in
    let is = c.requires.gathered in
    let most = has_most asked gathered.round reads is.later is.follows in
    let pass = ap (λ (l : LoginAsked). l.pass) c.login.view_is in
    let read = at_customer asked login gathered.begun ask reads most.0 c.requires.buyer most.1 is.begins c.index-reads-2.result in
    let stops = subst (λ p. StopsBy Customer (check_password p) (has_customer asked login gathered.begun ask reads most.0 c.requires.buyer most.1 is.begins).customer.row c.in-Err.stop) pass
    (subst (λ (r : ReadOf). StopsBy Customer (check_password c.login.inside.pass) r.row c.in-Err.stop) read c.in-Err.ensures.err) in
    IfOk-weaker c.stopped.result _ _
    (λ next done. stopped_next (FollowsBuy asked) (BuyRequest asked) ask reads c.stopped.new.draft c.in-Err.stop next refl (login_stops asked login gathered.begun ask reads most.0 c.requires.buyer most.1 is.begins c.in-Err.stop stops) done gathered.round)
    c.stopped.ensures

pub returns-then-round-eq2 : goal.returns-then-round-eq2
returns-then-round-eq2 c =
    let asked = c.args.asked.now in
    let login = c.args.login.now in
    let ask = c.args.ask.now in
    let gathered = c.args.gathered.now in
    let reads = gathered.reads.now in
    let is = c.requires.gathered in
    let most = has_most asked gathered.round reads is.later is.follows in
    let customer = c.in-Ok.customer.now in
    let pass = ap (λ (l : LoginAsked). l.pass) c.login.view_is in
    let right = is_customer asked login gathered.begun ask reads most.0 c.requires.buyer most.1 is.begins c.login.inside.pass c.index-reads-2.result customer pass c.in-Ok.ensures.ok in
    let lives = home_is asked login gathered.begun ask reads most.0 c.requires.buyer most.1 is.begins customer right in
    let may = home_may asked login gathered.begun ask reads most.0 c.requires.buyer most.1 is.begins customer right in
    subst (λ n. AsksFor (FollowsBuy asked) (BuyRequest asked) ask gathered.round reads (Address n ∷ [])) (sym (ap (λ (r : CustomerRow). r.address) c.customer.view_is))
    (asks_home asked ask gathered.round reads (Address customer.address) c.if-round-eq2.true is.follows lives may)

pub returns-then-round-eq3 : goal.returns-then-round-eq3
returns-then-round-eq3 c =
    let asked = c.args.asked.now in
    let ask = c.args.ask.now in
    let gathered = c.args.gathered.now in
    let reads = gathered.reads.now in
    let has : HasHome asked reads [] = subst (λ r. FollowsBuy asked r reads) c.if-round-eq3.true c.requires.gathered.follows in
    let read = last_read has.most.before reads has.home c.index-reads-reads.result has.most.reads_are in
    subst (λ k. AsksFor (FollowsBuy asked) (BuyRequest asked) ask gathered.round reads (k ∷ [])) (sym c.country_key.ensures)
    (asks_country asked c.args.login.now ask gathered.round reads _ c.if-round-eq3.true c.requires.buyer has (ap (λ (r : ReadOf). country_read None r.row) read))

pub write_page-requires-clause-items : goal.write_page-requires-clause-items
write_page-requires-clause-items c =
    let asked = c.args.asked.now in
    let login = c.args.login.now in
    let gathered = c.args.gathered.now in
    let reads = gathered.reads.now in
    let is = c.requires.gathered in
    let has = has_country asked gathered.round reads is.later c.if-round-eq2.false c.if-round-eq3.false is.follows in
    subst (AreItems gathered.begun.lines.now)
    (sym (at_items asked login gathered.begun c.args.ask.now reads (has.home.home ∷ has.country ∷ []) c.requires.buyer has.home.most is.begins))
    (has_customer asked login gathered.begun c.args.ask.now reads (has.home.home ∷ has.country ∷ []) c.requires.buyer has.home.most is.begins).items_are

pub returns-in_ok-act-in-Country : goal.returns-in_ok-act-in-Country
returns-in_ok-act-in-Country c =
    let asked = c.args.asked.now in
    let login = c.args.login.now in
    let ask = c.args.ask.now in
    let gathered = c.args.gathered.now in
    let reads = gathered.reads.now in
    let begun = gathered.begun in
    let is = c.requires.gathered in
    let has = has_country asked gathered.round reads is.later c.if-round-eq2.false c.if-round-eq3.false is.follows in
    let rest : List ReadOf = has.home.home ∷ has.country ∷ [] in
    let customer = c.in-Ok.customer.now in
    let draft = c.write_page.new.draft in
    let pass = ap (λ (l : LoginAsked). l.pass) c.login.view_is in
    let right = is_customer asked login begun ask reads rest c.requires.buyer has.home.most is.begins c.login.inside.pass c.index-reads-2.result customer pass c.in-Ok.ensures.ok in
    let read = at_country asked login begun ask reads rest c.requires.buyer has.home.most is.begins customer right has.home.home has.country refl has.home.home_is has.country_is c.index-reads-reads.result in
    let row_is = ap (λ (r : ReadOf). r.row) (sym read) ∙ c.in-Country.is in
    let rate : c.behind-country.inside.rate ≡ c.in-Country.country.rate = ap (λ (r : CountryRow). r.rate) (c.behind-country.view_is ∙ c.get.ensures) in
    let items = at_items asked login begun ask reads rest c.requires.buyer has.home.most is.begins in
    let change = logs_in asked login begun ask reads rest c.requires.buyer has.home.most is.begins customer right has.home.home has.country refl has.home.home_is has.country_is draft c.in-Country.country row_is
    (λ t shows stamp drawn.
    subst (λ n. IsPage draft drawn (buy_request t (logged_in stamp customer) asked.cart begun.lines.now n)) rate
    (c.in_ok-write_page-in-Country.ensures t (subst (Shows t) (sym items) shows) drawn (logged_in stamp customer) (c.known-shopper.ensures.shopper stamp drawn))) in
    let writes = c.in_ok-writes-in-Country.ensures ∙ ap (λ (row : CustomerRow). Login row.id ∷ []) c.customer.view_is in
    subst (λ (act : Act). IsChange (BuyRequest asked) ask reads draft act c.in_ok-writes-in-Country.writes) (sym c.in_ok-act-in-Country.ensures)
    (subst (λ (w : List Write). IsChange (BuyRequest asked) ask reads draft (Enter asked ask.draw) w) (sym writes) change)

pub returns-in_default : goal.returns-in_default
returns-in_default c t fits =
    let asked = c.args.asked.now in
    let login = c.args.login.now in
    let ask = c.args.ask.now in
    let gathered = c.args.gathered.now in
    let reads = gathered.reads.now in
    let begun = gathered.begun in
    let is = c.requires.gathered in
    let has = has_country asked gathered.round reads is.later c.if-round-eq2.false c.if-round-eq3.false is.follows in
    let rest : List ReadOf = has.home.home ∷ has.country ∷ [] in
    let customer = c.in-Ok.customer.now in
    let pass = ap (λ (l : LoginAsked). l.pass) c.login.view_is in
    let right = is_customer asked login begun ask reads rest c.requires.buyer has.home.most is.begins c.login.inside.pass c.index-reads-2.result customer pass c.in-Ok.ensures.ok in
    let read = at_country asked login begun ask reads rest c.requires.buyer has.home.most is.begins customer right has.home.home has.country refl has.home.home_is has.country_is c.index-reads-reads.result in
    let there = country_there asked login begun ask reads rest c.requires.buyer has.home.most is.begins customer right has.home.home has.country refl has.home.home_is has.country_is t fits in
    c.in_default.not-Country there.0 (ap (λ (r : ReadOf). r.row) read ∙ there.1)
