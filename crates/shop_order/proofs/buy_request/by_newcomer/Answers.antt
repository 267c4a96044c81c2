use Rattle.std.proofs.Common.{◌≡◌, List, sym, ◌∙◌, ap, subst}
use Rattle.shop_model.specs.declared.requests.Request.TheVariants.{BuyRequest}
use Rattle.shop_model.specs.asked.CustomersAsked.{NewcomerAsked, IsNewcomerAsked}
use Rattle.shop_model.specs.pages.BuyRequest.{buy_request}
use Rattle.shop_model.specs.rows.Rows.{CountryRow}
use Rattle.shop_model.specs.trade.Buyers.{new_customer}
use Rattle.shop_history.specs.declared.acts.Act.{Act}
use Rattle.shop_history.specs.declared.acts.Act.TheVariants.{Enter}
use Rattle.shop_history.specs.declared.keys.Key.TheVariants.{Country}
use Rattle.shop_draft.specs.Pages.{IsPage}
use Rattle.shop_attempt.specs.declared.attempts.ReadOf.{ReadOf}
use Rattle.shop_attempt.specs.declared.attempts.Write.{Write}
use Rattle.shop_attempt.specs.Reads.{Shows}
use Rattle.shop_browse.specs.Driver.{IsChange}
use Rattle.shop_order.specs.BuyRequest.{customer_row, home_key}
use Rattle.shop_order.proofs.BuyRequestLemmas.{asks_home, country_may, new_home}
use Rattle.shop_order.proofs.BuyersLemmas.{at_more, at_home, given_there, comes_in}
use Rattle.shop_order.proofs.buy_request.by_newcomer.Goals as goal

pub returns-then-round-eq2 : goal.returns-then-round-eq2
returns-then-round-eq2 c =
    let asked = c.args.asked.now in
    let ask = c.args.ask.now in
    let gathered = c.args.gathered.now in
    let reads = gathered.reads.now in
    let lives = ap (λ (n : NewcomerAsked). Country n.address.country) c.newcomer.view_is ∙ sym (ap (λ b. home_key b (customer_row reads)) c.requires.buyer) in
    asks_home asked ask gathered.round reads (Country c.newcomer.inside.address.country) c.if-round-eq2.true c.requires.gathered.follows lives
    (country_may asked ask reads c.newcomer.inside.address.country)

pub returns-in_ok-act-in-Country : goal.returns-in_ok-act-in-Country
returns-in_ok-act-in-Country c =
    let asked = c.args.asked.now in
    let newcomer = c.args.newcomer.now in
    let ask = c.args.ask.now in
    let gathered = c.args.gathered.now in
    let reads = gathered.reads.now in
    let begun = gathered.begun in
    let draft = c.write_page.new.draft in
    let buyer_is = c.requires.buyer in
    let begins = c.requires.gathered.begins in
    let has = new_home asked newcomer gathered.round reads buyer_is c.requires.gathered.later c.if-round-eq2.false c.requires.gathered.follows in
    let row_is = ap (λ (r : ReadOf). r.row) (sym (at_home asked newcomer begun ask reads buyer_is has begins c.index-reads-reads.result)) ∙ c.in-Country.is in
    let rate : c.behind-country.inside.rate ≡ c.in-Country.country.rate = ap (λ (r : CountryRow). r.rate) (c.behind-country.view_is ∙ c.get.ensures) in
    let items = at_more asked newcomer begun ask reads buyer_is has begins in
    let change = comes_in asked newcomer begun ask reads buyer_is has begins draft c.in-Country.country row_is
    (λ t shows stamp drawn id.
    let new = new_customer t stamp ask.draw newcomer in
    subst (λ n. IsPage draft drawn (buy_request t new asked.cart begun.lines.now n)) rate
    (c.in_ok-write_page-in-Country.ensures t (subst (Shows t) (sym items) shows) drawn new (c.newcomer-shopper.ensures.shopper t stamp drawn id))) in
    subst (λ (act : Act). IsChange (BuyRequest asked) ask reads draft act c.in_ok-writes-in-Country.writes) (sym c.in_ok-act-in-Country.ensures)
    (subst (λ (w : List Write). IsChange (BuyRequest asked) ask reads draft (Enter asked ask.draw) w) (sym c.in_ok-writes-in-Country.ensures) change)

pub returns-in_default : goal.returns-in_default
returns-in_default c t fits =
    let asked = c.args.asked.now in
    let newcomer = c.args.newcomer.now in
    let ask = c.args.ask.now in
    let gathered = c.args.gathered.now in
    let reads = gathered.reads.now in
    let has = new_home asked newcomer gathered.round reads c.requires.buyer c.requires.gathered.later c.if-round-eq2.false c.requires.gathered.follows in
    let form = subst IsNewcomerAsked c.newcomer.view_is c.newcomer.invariant in
    let there = given_there asked newcomer gathered.begun ask reads c.requires.buyer has c.requires.gathered.begins form t fits in
    c.in_default.not-Country there.0
    (ap (λ (r : ReadOf). r.row) (at_home asked newcomer gathered.begun ask reads c.requires.buyer has c.requires.gathered.begins c.index-reads-reads.result) ∙ there.1)
