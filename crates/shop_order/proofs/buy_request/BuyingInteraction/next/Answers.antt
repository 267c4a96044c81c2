use Rattle.std.proofs.Common.{[], ◌∷◌, sym, ◌∙◌, subst, refl, arith}
use Rattle.std.proofs.lemmas.Result.{IfOk-weaker}
use Rattle.shop_model.specs.declared.requests.Request.TheVariants.{BuyRequest}
use Rattle.shop_attempt.specs.declared.attempts.ReadOf.{ReadOf}
use Rattle.shop_attempt.specs.Reads.{Shows}
use Rattle.shop_browse.specs.Driver.{Fits}
use Rattle.shop_order.specs.BuyRequest.{FollowsBuy}
use Rattle.shop_order.specs.ShoppingCart.{IsFitRow}
use Rattle.shop_order.specs.Stops.{IsStop}
use Rattle.shop_order.proofs.StopsLemmas.{stop_weaker, stopped_next}
use Rattle.shop_order.proofs.BuyRequestLemmas.{has_first, fit_first, shows_first, at_cart, begun_first, begins_by, asks_second}
use Rattle.shop_order.proofs.buy_request.BuyingInteraction.next.Goals as goal

pub begin-requires-clause-fit : goal.begin-requires-clause-fit
begin-requires-clause-fit c =
    let asked = c.args.self.now.asked.now in
    let reads = c.args.reads.now in
    let has = has_first asked c.args.round reads c.if-round-eq0.false c.requires.follows in
    subst (λ (r : ReadOf). IsFitRow r.row) (sym (c.index-reads-0.is ∙ at_cart asked reads c.index-reads-0.result has)) (fit_first asked c.args.ask.now reads has c.requires.seen)

pub returns-in-Err-clause-next : goal.returns-in-Err-clause-next
returns-in-Err-clause-next c =
    let asked = c.args.self.now.asked.now in
    let ask = c.args.ask.now in
    let reads = c.args.reads.now in
    let cart = c.index-reads-0.result in
    let found = c.index-reads-1.result in
    let stop = c.in-Err.stop in
    let has = has_first asked c.args.round reads c.if-round-eq0.false c.requires.follows in
    let stops : IsStop (λ t. Shows t (cart ∷ found ∷ [])) (BuyRequest asked) stop = c.in-Err.ensures.err in
    let fits : IsStop (λ t. Fits ask.index.now t reads) (BuyRequest asked) stop
    = stop_weaker (λ t. Shows t (cart ∷ found ∷ [])) (λ t. Fits ask.index.now t reads) (BuyRequest asked) stop
    (λ t fits. shows_first asked reads cart found t has c.index-reads-0.is c.index-reads-1.is fits.shows) stops in
    IfOk-weaker c.stopped.result _ _ (λ next done. stopped_next (FollowsBuy asked) (BuyRequest asked) ask reads c.stopped.new.draft stop next refl fits done c.args.round) c.stopped.ensures

pub returns-then-round-eq1-clause-next : goal.returns-then-round-eq1-clause-next
returns-then-round-eq1-clause-next c =
    let asked = c.args.self.now.asked.now in
    let reads = c.args.reads.now in
    let has = has_first asked c.args.round reads c.if-round-eq0.false c.requires.follows in
    asks_second asked c.args.ask.now c.args.round reads c.in_ok-second_keys.field-0 c.in-Ok.begun c.if-round-eq1.true c.requires.follows has
    (begun_first asked reads c.index-reads-0.result c.index-reads-1.result c.in-Ok.begun has c.index-reads-0.is c.index-reads-1.is c.in-Ok.ensures.ok)
    c.in_ok-second_keys.ensures

pub by_most-requires : goal.by_most-requires
by_most-requires c =
    let asked = c.args.self.now.asked.now in
    let reads = c.args.reads.now in
    let has = has_first asked c.args.round reads c.if-round-eq0.false c.requires.follows in
    record {
      later = omega (arith, c.if-round-eq0.false, c.if-round-eq1.false);
      follows = c.requires.follows;
      begins = begins_by asked reads c.in-Ok.begun has (begun_first asked reads c.index-reads-0.result c.index-reads-1.result c.in-Ok.begun has c.index-reads-0.is c.index-reads-1.is c.in-Ok.ensures.ok);
    }
