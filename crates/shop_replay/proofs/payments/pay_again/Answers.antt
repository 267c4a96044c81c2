use Rattle.std.proofs.Common.{inl, inr, ap, subst, arith}
use Rattle.shop_order.specs.BuyConfirm.{asking_for}
use Rattle.shop_order.specs.Payments.{PaidFor}
use Rattle.shop_replay.specs.declared.approver.Approver.{Approver}
use Rattle.shop_replay.specs.Tries.{IsPaidBy}
use Rattle.shop_replay.proofs.Paying.{paid_again, paid_denied}
use Rattle.shop_replay.proofs.payments.pay_again.Goals as goal

pub returns-in-Approved : goal.returns-in-Approved
returns-in-Approved c =
    let paying = c.args.paying.now in
    subst (λ auth. IsPaidBy (asking_for paying) paying.asked.now auth c.args.attempt c.in-Approved.attempt) (ap (λ (a : Approver). a.auth) c.approver_of-approver.ensures)
    (paid_again (asking_for paying) paying.asked.now paying.call c.args.attempt c.pay.new.draft c.pay.new.kept c.approver_of-approver.result c.pay.new.gateway c.requires.may
    c.pay.ensures.asks c.in-Approved.attempt c.in-Approved.ensures.paid)

pub unreachable-requires : goal.unreachable-requires
unreachable-requires c =
    let paying = c.args.paying.now in
    elim c.in-Denied.is as (λ _. ⊥) [
      | inl denied ↦ paid_denied (asking_for paying) paying.asked.now paying.call c.args.attempt c.pay.new.draft c.pay.new.kept c.approver_of-approver.result c.pay.new.gateway c.requires.may
          c.pay.ensures.asks denied.0 denied.1
          (subst (PaidFor (asking_for paying) paying.asked.now paying.call c.args.attempt c.pay.new.draft c.pay.new.kept) denied.2 c.pay.ensures.paid)
      | inr failed ↦ omega (arith, c.pay.ensures.failed failed)
    ]
