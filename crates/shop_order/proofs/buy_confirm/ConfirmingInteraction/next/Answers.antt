use Rattle.std.proofs.Common.{[], ◌∷◌, get_or, refl, sym, ◌∙◌, ap, subst}
use Rattle.std.proofs.lemmas.Result.{IfOk-weaker}
use Rattle.shop_model.specs.declared.requests.Request.TheVariants.{BuyConfirm}
use Rattle.shop_model.specs.asked.PurchaseAsked.{PurchaseAsked, IsPurchaseAsked}
use Rattle.shop_history.specs.declared.keys.Row.{Row}
use Rattle.shop_attempt.specs.declared.attempts.ReadOf.{ReadOf}
use Rattle.shop_attempt.specs.Reads.{Shows}
use Rattle.shop_browse.specs.Baskets.{country_read}
use Rattle.shop_browse.specs.Driver.{Fits, AsksFor}
use Rattle.shop_order.specs.BuyConfirm.{second_keys, is_country, is_ship, FollowsConfirm}
use Rattle.shop_order.specs.ShoppingCart.{IsFitRow}
use Rattle.shop_order.specs.Stops.{IsStop}
use Rattle.shop_order.proofs.StopsLemmas.{stop_weaker, stopped_next}
use Rattle.shop_order.proofs.BuyConfirmLemmas.{has_first, second_at, has_most, first_of, fit_first, at_cart, shows_first, begun_first, asks_second, asks_country, by_country, most_ship, ship_never, flat_basket, country_at, at_country, country_basket, country_never}
use Rattle.shop_order.proofs.buy_confirm.ConfirmingInteraction.next.Goals as goal

pub begin-requires-clause-fit : goal.begin-requires-clause-fit
begin-requires-clause-fit c =
    let asked = c.args.self.now.asked.now in
    let reads = c.args.reads.now in
    let has = has_first asked c.args.ask.now.tax c.args.round reads c.if-round-eq0.false c.requires.follows in
    subst (λ (r : ReadOf). IsFitRow r.row) (sym (c.index-reads-1.is ∙ at_cart asked reads c.index-reads-1.result has)) (fit_first asked c.args.ask.now reads has c.requires.seen)

pub returns-in-Err-clause-next : goal.returns-in-Err-clause-next
returns-in-Err-clause-next c =
    let asked = c.args.self.now.asked.now in
    let ask = c.args.ask.now in
    let reads = c.args.reads.now in
    let buyer = c.index-reads-0.result in
    let cart = c.index-reads-1.result in
    let stop = c.in-Err.stop in
    let has = has_first asked c.args.ask.now.tax c.args.round reads c.if-round-eq0.false c.requires.follows in
    let stops : IsStop (λ t. Shows t (buyer ∷ cart ∷ [])) (BuyConfirm asked) stop = c.in-Err.ensures.err in
    let fits : IsStop (λ t. Fits ask.index.now t reads) (BuyConfirm asked) stop
    = stop_weaker (λ t. Shows t (buyer ∷ cart ∷ [])) (λ t. Fits ask.index.now t reads) (BuyConfirm asked) stop
    (λ t fits. shows_first asked reads buyer cart t has c.index-reads-0.is c.index-reads-1.is fits.shows) stops in
    IfOk-weaker c.stopped.result _ _ (λ next done. stopped_next (FollowsConfirm asked ask.tax) (BuyConfirm asked) ask reads c.stopped.new.draft stop next refl fits done c.args.round) c.stopped.ensures

pub returns-then-round-eq1-clause-next : goal.returns-then-round-eq1-clause-next
returns-then-round-eq1-clause-next c =
    let asked = c.args.self.now.asked.now in
    let reads = c.args.reads.now in
    let has = has_first asked c.args.ask.now.tax c.args.round reads c.if-round-eq0.false c.requires.follows in
    asks_second asked c.args.ask.now c.args.round reads c.in_ok-second_keys.field-0 c.in-Ok.basket c.if-round-eq1.true c.requires.follows has
    (begun_first asked reads c.index-reads-0.result c.index-reads-1.result c.in-Ok.basket has c.index-reads-0.is c.index-reads-1.is c.in-Ok.ensures.ok)
    (c.in_ok-second_keys.ensures ∙ ap (λ (a : PurchaseAsked). second_keys a.address c.in-Ok.basket.customer.now.address c.in-Ok.basket.lines.now) c.asked.view_is)

-- where the first two rounds are read

pub returns-then-not-is_ship-clause-next : goal.returns-then-not-is_ship-clause-next
returns-then-not-is_ship-clause-next c =
    let asked = c.args.self.now.asked.now in
    let tax = c.args.ask.now.tax in
    let reads = c.args.reads.now in
    let most = has_most asked tax c.args.round reads c.if-round-eq0.false c.if-round-eq1.false c.requires.follows in
    let begins = begun_first asked reads c.index-reads-0.result c.index-reads-1.result c.in-Ok.basket (first_of asked tax c.args.round reads most) c.index-reads-0.is c.index-reads-1.is c.in-Ok.ensures.ok in
    let ship = most_ship asked tax c.args.round reads c.in-Ok.basket most begins c.index-reads-2.result in
    ship_never asked tax c.args.round reads c.in-Ok.basket most begins c.args.ask.now
    (ap (λ (r : ReadOf). is_ship asked.address r.row) (sym ship) ∙ ap (λ (a : PurchaseAsked). is_ship a.address (get_or reads 2 c.index-reads-2.result).row) (sym c.asked.view_is) ∙ sym c.is_ship.ensures ∙ c.if-not-is_ship.true)

-- at one rate for all
pub returns-in-Flat-clause-next : goal.returns-in-Flat-clause-next
returns-in-Flat-clause-next c =
    let asked = c.args.self.now.asked.now in
    let tax = c.args.ask.now.tax in
    let reads = c.args.reads.now in
    let most = has_most asked tax c.args.round reads c.if-round-eq0.false c.if-round-eq1.false c.requires.follows in
    let begins = begun_first asked reads c.index-reads-0.result c.index-reads-1.result c.in-Ok.basket (first_of asked tax c.args.round reads most) c.index-reads-0.is c.index-reads-1.is c.in-Ok.ensures.ok in
    let ships =
    ap (λ (r : ReadOf). is_ship asked.address r.row) (sym (most_ship asked tax c.args.round reads c.in-Ok.basket most begins c.index-reads-2.result))
    ∙ ap (λ (a : PurchaseAsked). is_ship a.address (get_or reads 2 c.index-reads-2.result).row) (sym c.asked.view_is) ∙ sym c.is_ship.ensures ∙ c.if-not-is_ship.false in
    (asked, refl, flat_basket asked tax c.args.round reads c.in-Ok.basket most begins c.in-Flat.is ships)

-- by the country

pub returns-then-round-eq2-clause-next : goal.returns-then-round-eq2-clause-next
returns-then-round-eq2-clause-next c =
    let asked = c.args.self.now.asked.now in
    let ask = c.args.ask.now in
    let reads = c.args.reads.now in
    let has = second_at asked ask.tax c.args.round reads c.if-round-eq2.true c.requires.follows in
    let begins = begun_first asked reads c.index-reads-0.result c.index-reads-1.result c.in-Ok.basket has.first c.index-reads-0.is c.index-reads-1.is c.in-Ok.ensures.ok in
    let row : Row = (get_or reads 2 c.index-reads-2.result).row in
    subst (λ k. AsksFor (FollowsConfirm asked ask.tax) (BuyConfirm asked) ask c.args.round reads (k ∷ [])) (sym c.country_key.ensures)
    (asks_country asked ask c.args.round reads (country_read c.asked.inside.address row) c.if-round-eq2.true (by_country ask.tax c.in_default.not-Flat) has
    (ap (λ (a : PurchaseAsked). country_read a.address row) c.asked.view_is ∙ country_at asked reads c.in-Ok.basket has begins c.index-reads-2.result))

pub returns-then-is_country-clause-next : goal.returns-then-is_country-clause-next
returns-then-is_country-clause-next c =
    let asked = c.args.self.now.asked.now in
    let tax = c.args.ask.now.tax in
    let reads = c.args.reads.now in
    let most = has_most asked tax c.args.round reads c.if-round-eq0.false c.if-round-eq1.false c.requires.follows in
    let begins = begun_first asked reads c.index-reads-0.result c.index-reads-1.result c.in-Ok.basket (first_of asked tax c.args.round reads most) c.index-reads-0.is c.index-reads-1.is c.in-Ok.ensures.ok in
    let ships =
    ap (λ (r : ReadOf). is_ship asked.address r.row) (sym (most_ship asked tax c.args.round reads c.in-Ok.basket most begins c.index-reads-2.result))
    ∙ ap (λ (a : PurchaseAsked). is_ship a.address (get_or reads 2 c.index-reads-2.result).row) (sym c.asked.view_is) ∙ sym c.is_ship.ensures ∙ c.if-not-is_ship.false in
    let last = at_country asked tax c.args.round reads c.in-Ok.basket most begins c.if-round-eq2.false c.index-reads-reads.result in (
      asked,
      refl,
      country_basket asked tax c.args.round reads c.in-Ok.basket most begins c.if-round-eq2.false (by_country tax c.in_default.not-Flat) ships
          (ap (λ (r : ReadOf). is_country r.row) (sym last) ∙ sym c.is_country.ensures ∙ c.if-is_country.true),
    )

pub returns-clause-next : goal.returns-clause-next
returns-clause-next c =
    let asked = c.args.self.now.asked.now in
    let tax = c.args.ask.now.tax in
    let reads = c.args.reads.now in
    let most = has_most asked tax c.args.round reads c.if-round-eq0.false c.if-round-eq1.false c.requires.follows in
    let begins = begun_first asked reads c.index-reads-0.result c.index-reads-1.result c.in-Ok.basket (first_of asked tax c.args.round reads most) c.index-reads-0.is c.index-reads-1.is c.in-Ok.ensures.ok in
    let ships =
    ap (λ (r : ReadOf). is_ship asked.address r.row) (sym (most_ship asked tax c.args.round reads c.in-Ok.basket most begins c.index-reads-2.result))
    ∙ ap (λ (a : PurchaseAsked). is_ship a.address (get_or reads 2 c.index-reads-2.result).row) (sym c.asked.view_is) ∙ sym c.is_ship.ensures ∙ c.if-not-is_ship.false in
    let last = at_country asked tax c.args.round reads c.in-Ok.basket most begins c.if-round-eq2.false c.index-reads-reads.result in
    country_never asked tax c.args.round reads c.in-Ok.basket most begins c.if-round-eq2.false c.args.ask.now (subst IsPurchaseAsked c.asked.view_is c.asked.invariant) ships
    (ap (λ (r : ReadOf). is_country r.row) (sym last) ∙ sym c.is_country.ensures ∙ c.if-is_country.false)
