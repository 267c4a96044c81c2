-- The page of Buy Confirm; this project's own wording of the TPC-W specification's interaction.
use Rattle.std.specs.Prelude.{ℕ, List, ◌∷◌, ◌++◌, Some, codes, decimal}
use Rattle.shop_text.specs.Texts.{day_text}
use Rattle.shop_model.specs.declared.page.Block.TheVariants.{Heading, Para}
use Rattle.shop_model.specs.declared.page.Page.{Page}
use Rattle.shop_model.specs.declared.requests.IdsAsked.{IdsAsked}
use Rattle.shop_model.specs.declared.tables.Tables.{Tables}
use Rattle.shop_model.specs.asked.PurchaseAsked.{PurchaseAsked}
use Rattle.shop_model.specs.rows.Rows.{OrderRow}
use Rattle.shop_model.specs.trade.Money.{charged}
use Rattle.shop_model.specs.pages.Priced.{lines_table, totals_text}
use Rattle.shop_model.specs.pages.Targets.{nav}

unfoldable pub ships_text : ℕ → ℕ → List ℕ
ships_text customer day = codes "Customer " ++ decimal customer ++ codes ", ships " ++ day_text day

abbrev pub purchase_ids : PurchaseAsked → IdsAsked
purchase_ids asked = record { c = Some asked.c; cart = Some asked.cart }

-- the page of an order that was just placed
unfoldable pub confirm_page : Tables → IdsAsked → OrderRow → Page
confirm_page t ids order = record {
  status = 200;
  title = codes "Buy Confirm";
  blocks =
      Heading (codes "Order " ++ decimal order.id)
      ∷ Para (ships_text order.customer order.ship_day)
      ∷ lines_table t order.lines
      ∷ Para (totals_text (charged order))
      ∷ Para (codes "Authorisation " ++ order.card.auth)
      ∷ nav ids;
}
