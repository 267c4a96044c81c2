-- Where a request to buy a cart stops, by what was read of it, and what is done there.
use Rattle.std.specs.Prelude.{◌≡◌, ℕ, List, Option, Some, None}
use Rattle.shop_model.specs.declared.refusal.Refusal.{Refusal}
use Rattle.shop_model.specs.declared.requests.Request.{Request}
use Rattle.shop_model.specs.declared.tables.Tables.{Tables}
use Rattle.shop_model.specs.asked.Refusals.{page_of}
use Rattle.shop_model.specs.pages.Show.{check}
use Rattle.shop_model.specs.rows.Rows.{CartRow}
use Rattle.shop_model.specs.trade.Buyers.{check_bought}
use Rattle.shop_history.specs.declared.keys.Row.{Row}
use Rattle.shop_history.specs.declared.keys.Row.TheVariants as rows
use Rattle.shop_history.specs.Keys.{shown}
use Rattle.shop_draft.specs.declared.draft.Draft.{Draft}
use Rattle.shop_draft.specs.Pages as pages
use Rattle.shop_pricing.specs.Bounds.{AreLines}
use Rattle.shop_browse.specs.declared.driver.Next.{Next}
use Rattle.shop_browse.specs.declared.driver.Next.TheVariants as nexts
use Rattle.shop_order.specs.declared.stops.Stop.{Stop}
use Rattle.shop_order.specs.declared.stops.Stop.TheVariants.{Refused, Never}

-- whatever this row shows is refused, or it shows none of these
abbrev pub StopsBy : {A : Type 0} → (A → Row) → (Option A → Option Refusal) → Row → Stop → Type 0
StopsBy {A} make check row (Refused refusal) = (o : Option A) → shown make o ≡ row → check o ≡ Some refusal
StopsBy {A} make check row Never = (o : Option A) → shown make o ≡ row → ⊥

-- in whichever tables these are the request is refused, or there are none
abbrev pub IsStop : (Tables → Type 0) → Request → Stop → Type 0
IsStop These request (Refused refusal) = (t : Tables) → These t → check t request ≡ Some refusal
IsStop These request Never = (t : Tables) → These t → ⊥

-- what is done where a request stops
abbrev pub IsStopped : Stop → Draft → Next → Type 0
IsStopped (Refused refusal) draft next = (next ≡ nexts.Show) × pages.Shows draft (λ drawn. page_of refusal)
IsStopped Never draft next = next ≡ nexts.Never

-- the row is of a cart that may be bought, with these lines
pub record AreBought (row : Row) (lines : List (ℕ × ℕ)) : Type 0 where
  pub cart : CartRow
  pub row_is : row ≡ rows.Cart cart
  pub lines_are : lines ≡ cart.lines
  pub passes : check_bought (Some cart) ≡ None
  pub kept : AreLines lines
