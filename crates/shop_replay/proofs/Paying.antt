-- What comes of a purchase that a gateway approves which approves with one authorisation alone.
use Rattle.std.proofs.Common.{ℕ, List, Option, Some, None, ◌∙◌, ap}
use Rattle.shop_model.specs.asked.PurchaseAsked.{PurchaseAsked}
use Rattle.shop_edges.specs.declared.charge.Call.{Call}
use Rattle.shop_edges.specs.declared.gateway.Answer.{Answer}
use Rattle.shop_edges.specs.declared.gateway.Reason.{Reason}
use Rattle.shop_edges.specs.Payments.{AsksOnce}
use Rattle.shop_history.specs.declared.acts.Act.{Act}
use Rattle.shop_history.specs.declared.acts.Act.TheVariants.{Confirm}
use Rattle.shop_draft.specs.declared.draft.Draft.{Draft}
use Rattle.shop_attempt.specs.declared.attempts.Attempt.{Attempt}
use Rattle.shop_browse.specs.Attempts.{Asking}
use Rattle.shop_order.specs.declared.buy_confirm.Paid.TheVariants as paid
use Rattle.shop_order.specs.Payments.{PaidFor}
use Rattle.shop_replay.specs.declared.approver.Approver.{Approver}
use Rattle.shop_replay.specs.Approvals.{told}
use Rattle.shop_replay.specs.Tries.{IsPaidBy, MayBePaid}
use Rattle.shop_replay.proofs.Alone.{agrees_alone}
use Rattle.shop_replay.proofs.Approvals.{approved_is, never_denied}

module _ (asking : Asking) (asked : PurchaseAsked) (call : Call) (given : Attempt) (draft : Draft) (kept : Option Answer) (old new : Approver) (may : MayBePaid asking given)
    (asks : AsksOnce asked call None kept (told old) (told new)) (attempt : Attempt) where
  pub paid_denied : (reason : Reason) → PaidFor asking asked call given draft kept (paid.Denied attempt reason) → ⊥
  paid_denied reason is =
      let denied = is may.start may.now may.payable in
      let agrees = agrees_alone may.start may.now may.valid may.alone may.looked asking attempt denied.attempts in
      never_denied old new asked call kept _ reason asks (denied.settled _ agrees).1

  pub paid_again : PaidFor asking asked call given draft kept (paid.Approved attempt) → IsPaidBy asking asked old.auth given attempt
  paid_again is start now payable =
      let here = is may.start may.now may.payable in
      let agrees = agrees_alone may.start may.now may.valid may.alone may.looked asking attempt here.ready.attempts in
      let act : List ℕ → Option Act = λ auth. Some (Confirm asked asking.draw auth asking.tax) in
      ((is start now payable).ready.attempts, here.act ∙ ap act (approved_is old new asked call kept _ here.auth asks (here.settled _ agrees).1))
