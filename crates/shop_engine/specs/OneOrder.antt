-- One order for a cart: what a caller who is the only one has bought is not bought again.
use Rattle.std.specs.Prelude.{◌≡◌, ◌≢◌, ℕ, List, [], ◌∷◌, ◌++◌, All, Option, Some, None, IsSome, Ok}
use Rattle.std.specs.List.{flat_map}
use Rattle.shop_model.specs.declared.refusal.Refusal.{Refusal}
use Rattle.shop_model.specs.declared.refusal.Refusal.TheVariants.{EmptyCart, NoCustomer}
use Rattle.shop_model.specs.declared.requests.Request.TheVariants.{BuyConfirm}
use Rattle.shop_model.specs.declared.tables.Tables.{Tables}
use Rattle.shop_model.specs.asked.PurchaseAsked.{PurchaseAsked}
use Rattle.shop_model.specs.asked.Refusals.{page_of}
use Rattle.shop_model.specs.rows.Lookups.{row_numbered}
use Rattle.shop_model.specs.rows.Rows.{CustomerRow}
use Rattle.shop_history.specs.declared.acts.Act.{Act}
use Rattle.shop_history.specs.declared.acts.Act.TheVariants.{Cart}
use Rattle.shop_history.specs.Logs.{tables}
use Rattle.shop_attempt.specs.Seats.{IsSeat}
use Rattle.shop_http.specs.Requests.{asked}
use Rattle.shop_pages.specs.declared.reply.Form.{Form}
use Rattle.shop_pages.specs.Replies.{reply}
use Rattle.shop_engine.specs.declared.report.PointKind.TheVariants.{At, Change}
use Rattle.shop_engine.specs.Steps.{Step, AreSteps}
use Rattle.shop_engine.specs.Workers.{Standing}

-- an act puts no lines into this cart
abbrev pub LeavesEmpty : ℕ → Act → Type 0
LeavesEmpty cart (Cart asked draw) = asked.ids.cart ≢ Some cart
LeavesEmpty cart _ = Unit {0}

-- of the steps of a caller who is the only one, one bought a cart, a later one asks to buy the same cart, and none
-- between them put lines into it
pub record BuysAgain (answers : ℕ) (from to : Standing) : Type 0 where
  pub before : List Step
  pub first : Step
  pub between : List Step
  pub second : Step
  pub after : List Step
  pub run : AreSteps answers from (before ++ first ∷ between ++ second ∷ after) to
  pub valid : IsSeat from.seat
  pub alone : IsSome from.seat.latest
  pub one : PurchaseAsked
  pub asks_one : asked first.message ≡ Ok (BuyConfirm one)
  pub bought : first.point.kind ≡ Change
  pub other : PurchaseAsked
  pub asks_other : asked second.message ≡ Ok (BuyConfirm other)
  pub same : other.cart ≡ one.cart
  pub stays : All (λ s. All (λ e. LeavesEmpty one.cart e.act) s.made) between

-- the tables that the second finds
abbrev pub tables_found : {answers : ℕ} {from to : Standing} → BuysAgain answers from to → Tables
tables_found {answers} {from} {to} again =
    tables from.seat.opening (from.seat.seen ++ flat_map (λ s. s.made) (again.before ++ again.first ∷ again.between))

-- why it gets nothing
abbrev pub no_sale : Option CustomerRow → Refusal
no_sale None = NoCustomer
no_sale (Some customer) = EmptyCart

-- a step sold nothing, and tells that the cart is empty, or that there is no such customer
pub record IsNotSold (step : Step) (t : Tables) (asked : PurchaseAsked) : Type 0 where
  pub kind : step.point.kind ≡ At
  pub made : step.made ≡ []
  pub form : Form
  pub told : step.reply ≡ reply (page_of (no_sale (row_numbered t.customers asked.c))) form

abbrev pub OneOrder : Type 0
OneOrder = (answers : ℕ) (from to : Standing) (again : BuysAgain answers from to) → IsNotSold again.second (tables_found again) again.other
