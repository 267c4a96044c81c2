-- What comes of a purchase that was asked for at a gateway.
use Rattle.std.specs.Prelude.{◌≡◌, ℕ, List, Option, Some, None}
use Rattle.shop_model.specs.declared.requests.Request.TheVariants.{BuyConfirm}
use Rattle.shop_model.specs.declared.tables.Tables.{Tables}
use Rattle.shop_model.specs.declared.tax.TaxRule.{TaxRule}
use Rattle.shop_model.specs.asked.PurchaseAsked.{PurchaseAsked}
use Rattle.shop_model.specs.asked.Refusals.{page_of}
use Rattle.shop_model.specs.pages.Show.{check}
use Rattle.shop_edges.specs.declared.charge.Call.{Call}
use Rattle.shop_edges.specs.declared.gateway.Answer.{Answer}
use Rattle.shop_edges.specs.declared.gateway.Reason.{Reason}
use Rattle.shop_edges.specs.declared.gateway.Verdict.{Verdict}
use Rattle.shop_edges.specs.declared.gateway.Verdict.TheVariants as verdict
use Rattle.shop_edges.specs.Charges.{charge_due, denial}
use Rattle.shop_history.specs.declared.acts.Act.TheVariants.{Confirm}
use Rattle.shop_draft.specs.declared.draft.Draft.{Draft}
use Rattle.shop_draft.specs.Pages.{Shows}
use Rattle.shop_attempt.specs.declared.attempts.Attempt.{Attempt}
use Rattle.shop_attempt.specs.declared.attempts.ReadOf.{ReadOf}
use Rattle.shop_attempt.specs.Reads.{Agrees}
use Rattle.shop_attempt.specs.Seats.{Seat}
use Rattle.shop_browse.specs.Attempts.{Asking, IsReady, IsPayable, IsAttempt}
use Rattle.shop_order.specs.declared.buy_confirm.Paid.{Paid}
use Rattle.shop_order.specs.declared.buy_confirm.Paid.TheVariants as paid

-- whichever tables agree with the reads, the purchase is not refused there, and this verdict on what it is charged is kept
abbrev pub IsSettledBy : Tables → TaxRule → PurchaseAsked → Call → List ReadOf → Option Answer → Verdict → Type 0
IsSettledBy opening tax asked call reads kept verdict =
    (t : Tables)
    → Agrees opening t reads
    → (check t (BuyConfirm asked) ≡ None)
    × (kept ≡ Some (record { charge = charge_due t tax asked call; verdict = verdict }))

-- the attempt does the purchase, with the authorisation of the verdict that is kept
pub record IsApproved (start now : Seat) (asking : Asking) (asked : PurchaseAsked) (call : Call) (draft : Draft) (kept : Option Answer) (attempt : Attempt) : Type 0 where
  pub auth : List ℕ
  pub ready : IsReady start now asking draft attempt
  pub act : attempt.act ≡ Some (Confirm asked asking.draw auth asking.tax)
  pub settled : IsSettledBy now.opening asking.tax asked call attempt.reads kept (verdict.Approved auth)

-- the attempt changes nothing, and the page tells why the card was denied
pub record IsDenied (start now : Seat) (asking : Asking) (asked : PurchaseAsked) (call : Call) (draft : Draft) (kept : Option Answer) (attempt : Attempt) (reason : Reason) : Type 0 where
  pub attempts : IsAttempt start now asking attempt
  pub reading : attempt.act ≡ None
  pub settled : IsSettledBy now.opening asking.tax asked call attempt.reads kept (verdict.Denied reason)
  pub written : Shows draft (λ drawn. page_of (denial reason))

-- what came of an attempt that a payment decides, with the draft and the answer that is kept as they are then
abbrev pub PaidAs : Seat → Seat → Asking → PurchaseAsked → Call → Attempt → Draft → Option Answer → Paid → Type 0
PaidAs start now asking asked call given draft kept (paid.Approved attempt) = IsApproved start now asking asked call draft kept attempt
PaidAs start now asking asked call given draft kept (paid.Denied attempt reason) = IsDenied start now asking asked call draft kept attempt reason
PaidAs start now asking asked call given draft kept paid.Failed =
    (t : Tables) → Agrees now.opening t given.reads → check t (BuyConfirm asked) ≡ None
PaidAs start now asking asked call given draft kept paid.Memory = Unit {0}

-- in whichever views of a seat it is one whose rows were read
abbrev pub PaidFor : Asking → PurchaseAsked → Call → Attempt → Draft → Option Answer → Paid → Type 0
PaidFor asking asked call given draft kept result =
    (start now : Seat) → IsPayable start now asking given → PaidAs start now asking asked call given draft kept result
