-- What a gateway was asked for a request, and what of it decides.
use Rattle.std.specs.Prelude.{◌≡◌, List, [], All, Option, None, IsSome}
use Rattle.std.specs.List.{Contains}
use Rattle.shop_model.specs.declared.requests.Request.{Request}
use Rattle.shop_model.specs.declared.requests.Request.TheVariants.{BuyConfirm}
use Rattle.shop_model.specs.declared.tables.Tables.{Tables}
use Rattle.shop_model.specs.declared.tax.TaxRule.{TaxRule}
use Rattle.shop_model.specs.declared.tax.TaxRule.TheVariants.{ByCountry}
use Rattle.shop_model.specs.asked.PurchaseAsked.{PurchaseAsked}
use Rattle.shop_model.specs.pages.Show.{check}
use Rattle.shop_edges.specs.declared.charge.Call.{Call}
use Rattle.shop_edges.specs.declared.gateway.Answer.{Answer}
use Rattle.shop_edges.specs.declared.gateway.Reason.{Reason}
use Rattle.shop_edges.specs.declared.gateway.Verdict.{Verdict}
use Rattle.shop_edges.specs.declared.gateway.Verdict.TheVariants.{Approved, Denied}
use Rattle.shop_edges.specs.Charges.{ChargeValue, charge_due}
use Rattle.shop_edges.specs.Payments.{Keeps, IsFor}
use Rattle.shop_history.specs.declared.acts.Act.{Act}
use Rattle.shop_history.specs.declared.acts.Act.TheVariants.{Confirm}
use Rattle.shop_history.specs.Logs.{tables}
use Rattle.shop_attempt.specs.Seats.{Seat}

-- what it was asked for a request of a call, and said: for a purchase, charges of it, of which no two neighbours
-- are equal; for another request nothing
abbrev pub AreFor : Request → Call → List Answer → Type 0
AreFor (BuyConfirm asked) call answers =
    ((kept : Option Answer) × Keeps None answers kept) × All (IsFor asked call) answers
AreFor _ call answers = answers ≡ []

-- among these is this answer to what a purchase is charged in these tables that is taxed by a rule
abbrev pub Says : List Answer → Tables → TaxRule → PurchaseAsked → Call → Verdict → Type 0
Says answers t tax asked call verdict =
    Contains answers (record { charge = charge_due t tax asked call; verdict = verdict })

-- an act that is a purchase was paid: what it is charged in these tables was approved, with its authorisation
abbrev pub IsPaid : Tables → Call → List Answer → Act → Type 0
IsPaid t call answers (Confirm asked draw auth tax) = Says answers t tax asked call (Approved auth)
IsPaid t call answers _ = Unit {0}

-- a purchase that nothing refuses in these tables was denied, and this is what it is charged there
pub record IsDenied (t : Tables) (request : Request) (call : Call) (answers : List Answer) (charge : ChargeValue) (reason : Reason) : Type 0 where
  pub asked : PurchaseAsked
  pub buys : request ≡ BuyConfirm asked
  pub passes : check t request ≡ None
  pub due : charge ≡ charge_due t ByCountry asked call
  pub said : Says answers t ByCountry asked call (Denied reason)

-- the request is a purchase; where the caller is the only one, the tables after the log seen don't refuse it
pub record IsFailed (old new : Seat) (request : Request) : Type 0 where
  pub asked : PurchaseAsked
  pub buys : request ≡ BuyConfirm asked
  pub passes : IsSome old.latest → check (tables new.opening new.seen) request ≡ None
