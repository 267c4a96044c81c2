-- The page of Order Display; this project's own wording of the TPC-W specification's interaction.
use Rattle.std.specs.Prelude.{ℕ, List, ◌∷◌, ◌++◌, Option, Some, None, option_map, codes, decimal}
use Rattle.shop_text.specs.Texts.{day_text}
use Rattle.shop_model.specs.declared.page.Block.TheVariants.{Heading, Para}
use Rattle.shop_model.specs.declared.page.Page.{Page}
use Rattle.shop_model.specs.declared.requests.IdsAsked.{IdsAsked}
use Rattle.shop_model.specs.declared.tables.Tables.{Tables}
use Rattle.shop_model.specs.asked.CustomersAsked.{LoginAsked}
use Rattle.shop_model.specs.rows.Limits.{day_of}
use Rattle.shop_model.specs.rows.Lookups.{last_order, city_of, country_of, country_name}
use Rattle.shop_model.specs.rows.Rows.{CardUseRow, OrderRow}
use Rattle.shop_model.specs.rows.Subjects.{card_name, state_name}
use Rattle.shop_model.specs.trade.Buyers.{customer_named}
use Rattle.shop_model.specs.trade.Money.{charged}
use Rattle.shop_model.specs.pages.Priced.{lines_table, totals_text}
use Rattle.shop_model.specs.pages.Targets.{nav}

unfoldable pub placed_text : OrderRow → List ℕ
placed_text order =
    codes "Placed " ++ day_text (day_of order.placed)
    ++ codes ", ships " ++ day_text order.ship_day
    ++ codes ", status " ++ state_name order.status

-- where an order ships to: a city, and the name of its country
unfoldable pub ship_text : List ℕ → List ℕ → List ℕ
ship_text city country = codes "Ship to " ++ city ++ codes ", " ++ country

unfoldable pub paid_text : CardUseRow → List ℕ
paid_text card = codes "Card " ++ card_name card.card ++ codes ", authorisation " ++ card.auth

-- the page of an order
unfoldable pub order_page : Tables → IdsAsked → OrderRow → Page
order_page t ids order = record {
  status = 200;
  title = codes "Order Display";
  blocks =
      Heading (codes "Order " ++ decimal order.id)
      ∷ Para (placed_text order)
      ∷ lines_table t order.lines
      ∷ Para (totals_text (charged order))
      ∷ Para (ship_text (city_of t order.ship_address) (country_name t (country_of t order.ship_address)))
      ∷ Para (paid_text order.card)
      ∷ nav ids;
}

-- the page of who has no order
unfoldable pub no_order_page : IdsAsked → Page
no_order_page ids = record {
  status = 200;
  title = codes "Order Display";
  blocks = Heading (codes "Orders") ∷ Para (codes "No order yet.") ∷ nav ids;
}

-- the page of a last order, or of none
abbrev pub last_page : Tables → IdsAsked → Option OrderRow → Page
last_page t ids None = no_order_page ids
last_page t ids (Some order) = order_page t ids order

-- the page of the customer with a name, where there is one
abbrev pub order_display : Tables → LoginAsked → IdsAsked → Option Page
order_display t asked ids = option_map (λ c. last_page t ids (last_order t c.id)) (customer_named t asked.user)
