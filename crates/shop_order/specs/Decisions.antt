-- What is decided of a purchase that was read, by the verdict that is kept on its charge.
use Rattle.std.specs.Prelude.{◌≡◌, ℕ, ◌+◌, ◌%◌, List, Option, Some}
use Rattle.shop_model.specs.declared.tables.Tables.{Tables}
use Rattle.shop_model.specs.asked.PurchaseAsked.{PurchaseAsked}
use Rattle.shop_model.specs.asked.Refusals.{page_of}
use Rattle.shop_model.specs.pages.BuyConfirm.{confirm_page, purchase_ids}
use Rattle.shop_model.specs.rows.Rows.{OrderRow}
use Rattle.shop_edges.specs.declared.charge.Call.{Call}
use Rattle.shop_edges.specs.declared.gateway.Answer.{Answer}
use Rattle.shop_edges.specs.declared.gateway.Reason.{Reason}
use Rattle.shop_edges.specs.declared.gateway.Verdict.{Verdict}
use Rattle.shop_edges.specs.declared.gateway.Verdict.TheVariants as verdict
use Rattle.shop_edges.specs.Charges.{charge_to, denial}
use Rattle.shop_history.specs.declared.acts.Act.{Act}
use Rattle.shop_history.specs.declared.acts.Act.TheVariants.{Confirm}
use Rattle.shop_history.specs.declared.acts.Drawn.{Drawn}
use Rattle.shop_draft.specs.declared.draft.Draft.{Draft}
use Rattle.shop_draft.specs.Pages as pages
use Rattle.shop_draft.specs.Pages.{IsPage}
use Rattle.shop_attempt.specs.declared.attempts.ReadOf.{ReadOf}
use Rattle.shop_attempt.specs.declared.attempts.Write.{Write}
use Rattle.shop_attempt.specs.Reads.{Shows}
use Rattle.shop_browse.specs.Attempts.{Asking}
use Rattle.shop_order.specs.declared.decision.Decision.{Decision}
use Rattle.shop_order.specs.declared.decision.Decision.TheVariants.{Approved, Denied, Failed}
use Rattle.shop_order.specs.declared.purchase.Bill.{Bill}
use Rattle.shop_order.specs.declared.purchase.Purchase.{Purchase}
use Rattle.shop_order.specs.Purchases.{IsPurchase, IsBill, order_of, drawn_order, purchase_writes}

-- a purchase, its bill, the authorisation of its payment, and the word that was drawn
pub record Sale : Type 0 where
  pub purchase : Purchase
  pub bill : Bill
  pub auth : List ℕ
  pub draw : ℕ

-- how many days later it ships
abbrev pub days_of : Sale → ℕ
days_of sale = 1 + sale.draw % 7

abbrev pub order_in : Sale → OrderRow
order_in sale = order_of sale.purchase sale.bill sale.auth

-- the draft is of the page of a sale, in whichever tables show the items
abbrev pub IsPageOf : Sale → Draft → Type 0
IsPageOf sale draft =
    (t : Tables)
    → Shows t sale.purchase.items.now
    → (drawn : Drawn)
    → IsPage draft drawn (confirm_page t (purchase_ids sale.purchase.asked.now) (drawn_order drawn (days_of sale) (order_in sale)))

-- the act and the writes of a sale, and its page, in whichever tables show the items
pub record IsSale (sale : Sale) (draft : Draft) (act : Act) (writes : List Write) : Type 0 where
  pub act_is : act ≡ Confirm sale.purchase.asked.now sale.draw sale.auth sale.purchase.tax
  pub writes_are : (t : Tables) → Shows t sale.purchase.items.now → writes ≡ purchase_writes t sale.purchase (order_in sale) (days_of sale)
  pub page : IsPageOf sale draft

-- it is approved, and done so
abbrev pub IsApproved : Sale → Draft → Decision → Type 0
IsApproved sale draft (Approved act writes) = IsSale sale draft act writes
IsApproved sale draft (Denied reason) = ⊥
IsApproved sale draft Failed = ⊥

-- it is denied, and the page tells why
pub record IsDenied (reason : Reason) (draft : Draft) (decision : Decision) : Type 0 where
  pub is : decision ≡ Denied reason
  pub written : pages.Shows draft (λ drawn. page_of (denial reason))

-- the answer to what is billed, which is asked for in a call
abbrev pub answer_to : Call → Purchase → Bill → Verdict → Answer
answer_to call purchase bill verdict =
    record { charge = charge_to purchase.asked.now call bill.totals.total; verdict = verdict }

-- what is decided by the answer that is kept
abbrev pub IsDecidedBy : Call → Purchase → Bill → ℕ → Draft → Option Answer → Decision → Type 0
IsDecidedBy call purchase bill draw draft kept (Approved act writes) =
    (auth : List ℕ)
    × IsSale (record { purchase = purchase; bill = bill; auth = auth; draw = draw }) draft act writes
    × (kept ≡ Some (answer_to call purchase bill (verdict.Approved auth)))
IsDecidedBy call purchase bill draw draft kept (Denied reason) =
    pages.Shows draft (λ drawn. page_of (denial reason)) × (kept ≡ Some (answer_to call purchase bill (verdict.Denied reason)))
IsDecidedBy call purchase bill draw draft kept Failed = Unit {0}

-- what is decided of the purchase that is asked for in a call, by its reads
pub record Decides (asked : PurchaseAsked) (call : Call) (asking : Asking) (reads : List ReadOf) (draft : Draft) (kept : Option Answer) (decision : Decision) : Type 0 where
  pub purchase : Purchase
  pub bill : Bill
  pub is : IsPurchase asked reads purchase
  pub rule : purchase.tax ≡ asking.tax
  pub billed : IsBill purchase bill
  pub decided : IsDecidedBy call purchase bill asking.draw draft kept decision
