-- The page of a customer who buys a cart: who buys, and the lines at what they cost.
use Rattle.std.specs.Prelude.{◌≡◌, ℕ, ◌+◌, List, length, map, Some}
use Rattle.shop_model.specs.declared.page.Block.TheVariants as block
use Rattle.shop_model.specs.declared.tables.Tables.{Tables}
use Rattle.shop_model.specs.asked.CustomersAsked.{NewcomerAsked}
use Rattle.shop_model.specs.pages.BuyRequest.{buy_request}
use Rattle.shop_model.specs.pages.PageText.{block_line}
use Rattle.shop_model.specs.pages.Priced.{order_lines, totals_text}
use Rattle.shop_model.specs.rows.Lookups.{cost_of}
use Rattle.shop_model.specs.rows.Rows.{CustomerRow}
use Rattle.shop_model.specs.trade.Buyers.{new_customer}
use Rattle.shop_model.specs.trade.Money.{totals}
use Rattle.shop_history.specs.declared.acts.Drawn.{Drawn}
use Rattle.shop_draft.specs.declared.draft.Draft.{Draft}
use Rattle.shop_draft.specs.Customers.{IsBuyer}
use Rattle.shop_draft.specs.Drawing.{id_at, user_at}
use Rattle.shop_draft.specs.Pages.{IsPage}
use Rattle.shop_attempt.specs.declared.attempts.ReadOf.{ReadOf}
use Rattle.shop_attempt.specs.Reads.{Shows}
use Rattle.shop_pricing.specs.Totals.{ArePriced}
use Rattle.shop_order.specs.declared.buyer_page.Shopper.{Shopper}

-- with what a settle drew, this customer buys
pub record IsShopper (drawn : Drawn) (shopper : Shopper) (customer : CustomerRow) : Type 0 where
  pub id : customer.id ≡ id_at drawn shopper.id
  pub buyer : IsBuyer customer (user_at drawn shopper.id) shopper.first.now shopper.last.now shopper.discount

-- who is new, with the next id of whichever tables, and the discount that a word draws
abbrev pub IsNewShopper : ℕ → NewcomerAsked → Shopper → Type 0
IsNewShopper draw newcomer shopper =
    (t : Tables) (stamp : ℕ) (drawn : Drawn)
    → drawn.ids.customer ≡ Some (length t.customers + 1)
    → IsShopper drawn shopper (new_customer t stamp draw newcomer)

-- the line of a page that tells what the lines of a cart cost at a discount, taxed at a rate
abbrev pub totals_line : Tables → List (ℕ × ℕ) → ℕ → ℕ → List ℕ
totals_line t lines discount rate = block_line (block.Para (totals_text (totals (order_lines t 1 lines) discount rate)))

-- the draft is of the page of whoever buys so the lines of a cart, taxed at a rate
abbrev pub IsBuyersPage : Tables → Shopper → ℕ → List (ℕ × ℕ) → ℕ → Draft → Type 0
IsBuyersPage t shopper cart lines rate draft =
    (drawn : Drawn) (customer : CustomerRow) → IsShopper drawn shopper customer → IsPage draft drawn (buy_request t customer cart lines rate)

-- a line of a cart, and what one unit of its item costs
abbrev pub priced_line : Tables → ℕ × ℕ → ℕ × ℕ × ℕ
priced_line t line = (line.0, line.1, cost_of t line.0)

-- the lines at what they cost in whichever tables show the items
pub record IsPricing (lines : List (ℕ × ℕ)) (items : List ReadOf) (priced : List (ℕ × ℕ × ℕ)) : Type 0 where
  pub bounded : ArePriced priced
  pub are : (t : Tables) → Shows t items → priced ≡ map (priced_line t) lines
