-- The page of Buy Request; this project's own wording of the TPC-W specification's interaction.
use Rattle.std.specs.Prelude.{ℕ, List, ◌∷◌, ◌++◌, Some, codes, decimal}
use Rattle.shop_model.specs.declared.page.Block.{Block}
use Rattle.shop_model.specs.declared.page.Block.TheVariants.{Heading, Para, Form}
use Rattle.shop_model.specs.declared.page.Page.{Page}
use Rattle.shop_model.specs.declared.requests.IdsAsked.{IdsAsked}
use Rattle.shop_model.specs.declared.tables.Tables.{Tables}
use Rattle.shop_model.specs.rows.Rows.{CustomerRow, LineRow}
use Rattle.shop_model.specs.trade.Money.{totals}
use Rattle.shop_model.specs.pages.Forms.{text_field, empty_field}
use Rattle.shop_model.specs.pages.Priced.{lines_table, order_lines, totals_text}
use Rattle.shop_model.specs.pages.Targets.{id_fields, nav}

-- both names of a customer
abbrev pub full_name : CustomerRow → List ℕ
full_name customer = customer.first ++ codes " " ++ customer.last

unfoldable pub buyer_text : CustomerRow → List ℕ
buyer_text customer =
    codes "User " ++ customer.user ++ codes ", " ++ full_name customer ++ codes ", discount " ++ decimal customer.discount

-- the form in which a purchase is paid
unfoldable pub payment_form : CustomerRow → IdsAsked → Block
payment_form customer ids =
    Form (codes "/buy_confirm")
    (text_field (codes "card") (codes "VISA")
    ∷ empty_field (codes "number")
    ∷ text_field (codes "name") (full_name customer)
    ∷ empty_field (codes "expiry")
    ∷ id_fields ids)

-- the ids of that page
abbrev pub buyer_ids : CustomerRow → ℕ → IdsAsked
buyer_ids customer cart = record { c = Some customer.id; cart = Some cart }

-- what a customer buys and what it costs, where these are the lines of the order, and it is taxed at a rate
unfoldable pub priced_page : Tables → CustomerRow → ℕ → List LineRow → ℕ → Page
priced_page t customer cart lines rate = record {
  status = 200;
  title = codes "Buy Request";
  blocks =
      Heading (codes "Customer " ++ decimal customer.id)
      ∷ Para (buyer_text customer)
      ∷ lines_table t lines
      ∷ Para (totals_text (totals lines customer.discount rate))
      ∷ payment_form customer (buyer_ids customer cart)
      ∷ nav (buyer_ids customer cart);
}

-- for a customer who buys the lines of a cart
abbrev pub buy_request : Tables → CustomerRow → ℕ → List (ℕ × ℕ) → ℕ → Page
buy_request t customer cart lines rate = priced_page t customer cart (order_lines t 1 lines) rate
