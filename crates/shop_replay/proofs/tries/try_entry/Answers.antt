use Rattle.std.proofs.Common.{◌≡◌, sym, ◌∙◌, ap, subst}
use Rattle.shop_model.specs.declared.requests.Request.TheVariants.{BuyConfirm}
use Rattle.shop_history.specs.Acts.{request_of}
use Rattle.shop_browse.specs.Attempts.{Asking, IsList, IsPayable, IsPlain, asking_of}
use Rattle.shop_replay.specs.Tries.{IsPaidBy, asking_for}
use Rattle.shop_replay.proofs.Acts.{confirm_is}
use Rattle.shop_replay.proofs.Alone.{agrees_alone, page_only, paid_try, ready_try}
use Rattle.shop_replay.proofs.tries.try_entry.Goals as goal

pub returns-in-Some-clause-tries : goal.returns-in-Some-clause-tries
returns-in-Some-clause-tries g c =
    let plain = subst (λ (a : Asking). IsPlain (g.St.Store.seat c.args.store.now) (g.St.Store.seat c.attempt_act.new.store) a c.attempt_act.new.draft c.in-Ready.attempt) c.ask_of-ask.ensures.asks
    c.in-Ready.ensures.attempted in
    ready_try _ _ c.requires.seat c.requires.alone c.attempt_act.ensures.looks.looked c.args.entry.now _ _ _ plain.ready c.in-Some.is plain.free

pub returns-in-Ready-clause-tries : goal.returns-in-Ready-clause-tries
returns-in-Ready-clause-tries g c =
    let plain = subst (λ (a : Asking). IsPlain (g.St.Store.seat c.args.store.now) (g.St.Store.seat c.attempt_act.new.store) a c.attempt_act.new.draft c.in-Ready.attempt) c.ask_of-ask.ensures.asks
    c.in-Ready.ensures.attempted in
    page_only _ _ c.requires.seat c.requires.alone c.attempt_act.ensures.looks.looked c.args.entry.now _ _ plain.ready c.in-None.is

pub returns-in-Pay-clause-tries : goal.returns-in-Pay-clause-tries
returns-in-Pay-clause-tries g c =
    let entry = c.args.entry.now in
    let ask = c.ask_of-ask.result in
    let asks : asking_of ask (request_of entry.act) ≡ asking_for entry.stamp entry.act = c.ask_of-ask.ensures.asks in
    let same : asking_of ask (BuyConfirm c.in-Confirm.asked) ≡ asking_for entry.stamp entry.act = ap (asking_of ask) (sym (ap request_of c.in-Confirm.is)) ∙ asks in
    paid_try _ _ c.requires.seat c.requires.alone c.attempt_act.ensures.looks.looked entry _ _ _ _
    (subst (λ (a : Asking). IsPayable (g.St.Store.seat c.args.store.now) (g.St.Store.seat c.attempt_act.new.store) a c.in-Pay.attempt) asks c.in-Pay.ensures.attempted)
    (subst (λ (a : Asking). IsPaidBy a c.in-Confirm.asked c.in-Confirm.auth c.in-Pay.attempt c.in_ok-pay_again-in-Pay.field-0) same c.in_ok-pay_again-in-Pay.ensures)
    (confirm_is entry.act _ _ _ _ c.in-Confirm.is)

-- the page tells why the tables refuse it
pub returns-in-Listed-clause-tries : goal.returns-in-Listed-clause-tries
returns-in-Listed-clause-tries g c =
    let list = subst (λ (a : Asking). IsList (g.St.Store.seat c.args.store.now) (g.St.Store.seat c.attempt_act.new.store) a c.attempt_act.new.draft c.in-Listed.field-0 c.in-Listed.field-1) c.ask_of-ask.ensures.asks
    c.in-Listed.ensures.attempted in
    page_only _ _ c.requires.seat c.requires.alone c.attempt_act.ensures.looks.looked c.args.entry.now _ _ list.ready list.reading

pub unreachable-requires-in-Contradiction : goal.unreachable-requires-in-Contradiction
unreachable-requires-in-Contradiction g c =
    let is = c.in-Contradiction.ensures.attempted in
    is.never _ (agrees_alone _ _ c.requires.seat c.requires.alone c.attempt_act.ensures.looks.looked _ _ is.attempts)
