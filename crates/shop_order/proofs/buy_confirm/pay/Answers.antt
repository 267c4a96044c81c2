use Rattle.std.proofs.Common.{List, subst}
use Rattle.shop_model.specs.declared.requests.Request.TheVariants.{BuyConfirm}
use Rattle.shop_attempt.specs.declared.attempts.ReadOf.{ReadOf}
use Rattle.shop_browse.specs.Attempts.{asking_of}
use Rattle.shop_order.specs.declared.decision.Decision.TheVariants.{Approved, Denied, Failed}
use Rattle.shop_order.specs.Decisions.{Decides}
use Rattle.shop_order.proofs.PaymentsLemmas.{paid_approved, paid_denied, paid_failed}
use Rattle.shop_order.proofs.buy_confirm.pay.Goals as goal

pub returns-in-Ok-Approved-clause-paid : goal.returns-in-Ok-Approved-clause-paid
returns-in-Ok-Approved-clause-paid g c =
    let ask = c.args.paying.now.ask.now in
    let asked = c.args.paying.now.asked.now in
    let call = c.args.paying.now.call in
    let draft = c.decide.new.draft in
    let kept = c.decide.new.kept in
    let act = c.in-Ok-Approved.act in
    let writes = c.in-Ok-Approved.writes in
    paid_approved ask asked call c.args.attempt draft kept act writes
    (subst (λ (reads : List ReadOf). Decides asked call (asking_of ask (BuyConfirm asked)) reads draft kept (Approved act writes)) c.as_slice-reads.ensures
    (subst (Decides asked call (asking_of ask (BuyConfirm asked)) c.as_slice-reads.result.now draft kept) c.in-Ok-Approved.field-0-is c.in-Ok-Approved.ensures.decides))

pub returns-in-Ok-Denied-clause-paid : goal.returns-in-Ok-Denied-clause-paid
returns-in-Ok-Denied-clause-paid g c =
    let ask = c.args.paying.now.ask.now in
    let asked = c.args.paying.now.asked.now in
    let call = c.args.paying.now.call in
    let draft = c.decide.new.draft in
    let kept = c.decide.new.kept in
    let reason = c.in-Ok-Denied.reason in
    paid_denied ask asked call c.args.attempt draft kept reason
    (subst (λ (reads : List ReadOf). Decides asked call (asking_of ask (BuyConfirm asked)) reads draft kept (Denied reason)) c.as_slice-reads.ensures
    (subst (Decides asked call (asking_of ask (BuyConfirm asked)) c.as_slice-reads.result.now draft kept) c.in-Ok-Denied.field-0-is c.in-Ok-Denied.ensures.decides))

pub returns-in-Ok-Failed-clause-paid : goal.returns-in-Ok-Failed-clause-paid
returns-in-Ok-Failed-clause-paid g c =
    let ask = c.args.paying.now.ask.now in
    let asked = c.args.paying.now.asked.now in
    let call = c.args.paying.now.call in
    let draft = c.decide.new.draft in
    let kept = c.decide.new.kept in
    paid_failed ask asked call c.args.attempt draft kept
    (subst (λ (reads : List ReadOf). Decides asked call (asking_of ask (BuyConfirm asked)) reads draft kept Failed) c.as_slice-reads.ensures
    (subst (Decides asked call (asking_of ask (BuyConfirm asked)) c.as_slice-reads.result.now draft kept) c.in-Ok-Failed.field-0-is c.in-Ok-Failed.ensures.decides))
