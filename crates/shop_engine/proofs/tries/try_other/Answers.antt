use Rattle.std.proofs.Common.{refl, sym, ◌∙◌, subst, arith}
use Rattle.shop_browse.specs.Attempts.{AttemptedAs}
use Rattle.shop_browse.specs.Baskets.{HasBasket}
use Rattle.shop_order.specs.declared.buy_confirm.Paid.TheVariants as paid
use Rattle.shop_engine.proofs.Payments.{free_paid}
use Rattle.shop_engine.proofs.Purchases.{approved_may, failed_is, paid_is}
use Rattle.shop_engine.proofs.TriesLemmas.{again_is, no_room, never_else, unasked, asked_once}
use Rattle.shop_engine.proofs.tries.try_other.Goals as goal

-- what was attempted may be settled

pub settle_page-requires-clause-faithful : goal.settle_page-requires-clause-faithful
settle_page-requires-clause-faithful g c =
    let made = c.requires.attempted in
    (subst (AttemptedAs made.0 _ _ _) c.in-Ready.is made.1).ready.attempts.faithful

pub settle_page-requires-clause-moment : goal.settle_page-requires-clause-moment
settle_page-requires-clause-moment g c =
    let made = c.requires.attempted in
    let was = subst (AttemptedAs made.0 _ _ _) c.in-Ready.is made.1 in
    omega (arith, was.ready.attempts.at, c.requires.moment)

pub settle_list-requires-clause-faithful : goal.settle_list-requires-clause-faithful
settle_list-requires-clause-faithful g c =
    let made = c.requires.attempted in
    (subst (AttemptedAs made.0 _ _ _) c.in-Listed.is made.1).ready.attempts.faithful

pub settle_list-requires-clause-moment : goal.settle_list-requires-clause-moment
settle_list-requires-clause-moment g c =
    let made = c.requires.attempted in
    let was = subst (AttemptedAs made.0 _ _ _) c.in-Listed.is made.1 in
    omega (arith, was.ready.attempts.at, c.requires.moment)

pub settle_list-requires-clause-reading : goal.settle_list-requires-clause-reading
settle_list-requires-clause-reading g c =
    let made = c.requires.attempted in
    (subst (AttemptedAs made.0 _ _ _) c.in-Listed.is made.1).reading

pub pay-requires : goal.pay-requires
pay-requires g c =
    let made = c.requires.attempted in
    let payable = subst (AttemptedAs made.0 _ _ _) c.in-Pay.is made.1 in
    let ask = c.args.job.now.ask in
    subst (λ r. HasBasket ask.index.now ask.tax r c.in-Pay.attempt.reads) c.in-BuyConfirm.is
    (subst (λ i. HasBasket i ask.tax c.args.job.now.request.now c.in-Pay.attempt.reads) (sym c.requires.suits) payable.basket)

pub settle_page-requires-in-Approved-clause-faithful : goal.settle_page-requires-in-Approved-clause-faithful
settle_page-requires-in-Approved-clause-faithful g c =
    let made = c.requires.attempted in
    let payable = subst (AttemptedAs made.0 _ _ _) c.in-Pay.is made.1 in
    (paid_is _ _ c.args.job.now _ _ _ _ c.in-BuyConfirm.is payable (paid.Approved c.in-Approved.attempt) c.in-Approved.ensures.paid).ready.attempts.faithful

pub settle_page-requires-in-Approved-clause-moment : goal.settle_page-requires-in-Approved-clause-moment
settle_page-requires-in-Approved-clause-moment g c =
    let made = c.requires.attempted in
    let payable = subst (AttemptedAs made.0 _ _ _) c.in-Pay.is made.1 in
    let was = paid_is _ _ c.args.job.now _ _ _ _ c.in-BuyConfirm.is payable (paid.Approved c.in-Approved.attempt) c.in-Approved.ensures.paid in
    omega (arith, was.ready.attempts.at, c.requires.moment)

pub settle_denied-requires-clause-faithful : goal.settle_denied-requires-clause-faithful
settle_denied-requires-clause-faithful g c =
    let made = c.requires.attempted in
    let payable = subst (AttemptedAs made.0 _ _ _) c.in-Pay.is made.1 in
    (paid_is _ _ c.args.job.now _ _ _ _ c.in-BuyConfirm.is payable (paid.Denied c.in-Denied.attempt c.in-Denied.reason) c.in-Denied.ensures.paid).attempts.faithful

pub settle_denied-requires-clause-moment : goal.settle_denied-requires-clause-moment
settle_denied-requires-clause-moment g c =
    let made = c.requires.attempted in
    let payable = subst (AttemptedAs made.0 _ _ _) c.in-Pay.is made.1 in
    let was = paid_is _ _ c.args.job.now _ _ _ _ c.in-BuyConfirm.is payable (paid.Denied c.in-Denied.attempt c.in-Denied.reason) c.in-Denied.ensures.paid in
    omega (arith, was.attempts.at, c.requires.moment)

pub settle_denied-requires-clause-reading : goal.settle_denied-requires-clause-reading
settle_denied-requires-clause-reading g c =
    let made = c.requires.attempted in
    let payable = subst (AttemptedAs made.0 _ _ _) c.in-Pay.is made.1 in
    (paid_is _ _ c.args.job.now _ _ _ _ c.in-BuyConfirm.is payable (paid.Denied c.in-Denied.attempt c.in-Denied.reason) c.in-Denied.ensures.paid).reading

pub unreachable-requires-in_default-settle : goal.unreachable-requires-in_default-settle
unreachable-requires-in_default-settle g c =
    let settled = c.settle.ensures in
    let made = c.requires.attempted in
    never_else _ _ _ c.args.job.now _ _ settled.follows settled.valid (subst (AttemptedAs made.0 _ _ _) c.in-Contradiction.is made.1) settled.settled c.in_default-settle.not-Stale

-- at a page

pub returns-in-Ready-clause-tried : goal.returns-in-Ready-clause-tried
returns-in-Ready-clause-tried g c start may =
    let was = subst (AttemptedAs start _ _ _) c.in-Ready.is may.made in
    unasked _ _ _ _ _ refl refl
    (λ before has. c.settle_page.ensures.tried _ before may.looked (record {
      caller = may.looked.follows.caller ∙ may.caller;
      kept = c.args.kept.now;
      asked = has;
      ready = was.ready;
      unlisted = was.unlisted;
      paid = λ t agrees. free_paid c.in-Ready.attempt.act was.free t _ before;
    }))

pub returns-in-Ready-clause-failed : goal.returns-in-Ready-clause-failed
returns-in-Ready-clause-failed g c failed = absurd (c.settle_page.ensures.never failed)

pub returns-in-Listed-clause-tried : goal.returns-in-Listed-clause-tried
returns-in-Listed-clause-tried g c start may =
    unasked _ _ _ _ _ refl refl (λ before has. c.settle_list.ensures.tried _ _ before may.looked has (subst (AttemptedAs start _ _ _) c.in-Listed.is may.made))

-- at a purchase

pub returns-in-Approved-clause-tried : goal.returns-in-Approved-clause-tried
returns-in-Approved-clause-tried g c start may =
    asked_once _ _ _ _ _ _ c.in-BuyConfirm.is c.in-Approved.ensures.asks
    (λ all has. c.settle_page-in-Approved.ensures.tried _ all may.looked
    (approved_may _ _ c.args.job.now _ _ _ _ c.in-BuyConfirm.is (subst (AttemptedAs start _ _ _) c.in-Pay.is may.made) c.in-Approved.attempt all (may.looked.follows.caller ∙ may.caller) has c.in-Approved.ensures.paid))

pub returns-in-Approved-clause-failed : goal.returns-in-Approved-clause-failed
returns-in-Approved-clause-failed g c failed = absurd (c.settle_page-in-Approved.ensures.never failed)

pub returns-in-Denied-clause-tried : goal.returns-in-Denied-clause-tried
returns-in-Denied-clause-tried g c start may =
    let payable = subst (AttemptedAs start _ _ _) c.in-Pay.is may.made in
    let denied = paid_is _ _ c.args.job.now _ _ _ _ c.in-BuyConfirm.is payable (paid.Denied c.in-Denied.attempt c.in-Denied.reason) c.in-Denied.ensures.paid in
    asked_once _ _ _ _ _ _ c.in-BuyConfirm.is c.in-Denied.ensures.asks (λ all has. c.settle_denied.ensures.tried _ _ _ all may.looked c.in-BuyConfirm.is has denied)

pub returns-in-Denied-clause-failed : goal.returns-in-Denied-clause-failed
returns-in-Denied-clause-failed g c failed = absurd (c.settle_denied.ensures.never failed)

pub returns-in-Ok-clause-tried : goal.returns-in-Ok-clause-tried
returns-in-Ok-clause-tried g c start may =
    let payable = subst (AttemptedAs start _ _ _) c.in-Pay.is may.made in
    let passes = paid_is _ _ c.args.job.now _ _ c.pay.new.draft c.pay.new.kept c.in-BuyConfirm.is payable paid.Failed c.in-Failed.ensures.paid in
    asked_once _ _ _ _ _ _ c.in-BuyConfirm.is c.in-Failed.ensures.asks
    (λ all has. failed_is _ _ _ _ _ all _ _ may.looked may.valid may.caller c.in-BuyConfirm.is has payable passes c.in-Ok.ensures)

pub returns-in-Err-clause-tried : goal.returns-in-Err-clause-tried
returns-in-Err-clause-tried g c start may =
    asked_once _ _ _ _ _ _ c.in-BuyConfirm.is c.in-Failed.ensures.asks (λ all has. no_room _ _ _ may.looked)

pub returns-in-Memory-pay-clause-tried : goal.returns-in-Memory-pay-clause-tried
returns-in-Memory-pay-clause-tried g c start may =
    asked_once _ _ _ _ _ _ c.in-BuyConfirm.is c.in-Memory-pay.ensures.asks (λ all has. no_room _ _ _ may.looked)

-- at what no shop shows

pub returns-in-Stale-clause-tried : goal.returns-in-Stale-clause-tried
returns-in-Stale-clause-tried g c start may =
    let settled = c.settle.ensures in
    let was = subst (AttemptedAs start _ _ _) c.in-Contradiction.is may.made in
    unasked _ _ _ _ _ refl refl (λ before has. again_is _ _ _ _ _ _ may.looked settled.follows settled.settles was.attempts c.in-Stale.ensures.settled)

pub returns-in-Memory-clause-tried : goal.returns-in-Memory-clause-tried
returns-in-Memory-clause-tried g c start may = unasked _ _ _ _ _ refl refl (λ before has. no_room _ _ _ may.looked)
