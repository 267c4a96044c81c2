-- The page of Shopping Cart; this project's own wording of the TPC-W specification's interaction.
use Rattle.std.specs.Prelude.{ℕ, ◌*◌, List, ◌∷◌, ◌++◌, map, sum_by, Some, codes, decimal}
use Rattle.shop_text.specs.Texts.{cents_text}
use Rattle.shop_model.specs.declared.page.Block.TheVariants.{Heading, Para, Table, Form}
use Rattle.shop_model.specs.declared.page.Field.{Field}
use Rattle.shop_model.specs.declared.page.Page.{Page}
use Rattle.shop_model.specs.declared.requests.IdsAsked.{IdsAsked}
use Rattle.shop_model.specs.declared.tables.Tables.{Tables}
use Rattle.shop_model.specs.rows.Lookups.{cost_of}
use Rattle.shop_model.specs.pages.Priced.{priced_cells}
use Rattle.shop_model.specs.pages.Targets.{number_field, id_fields, plain_link, nav}

-- what a line costs
abbrev pub line_cost : Tables → ℕ × ℕ → ℕ
line_cost t line = cost_of t line.0 * line.1

-- a line as a row of the table, at what its item costs
abbrev pub line_cells : Tables → ℕ × ℕ → List (List ℕ)
line_cells t line = priced_cells t line.0 line.1 (cost_of t line.0)

-- a line as a field of the form
abbrev pub line_field : ℕ × ℕ → Field
line_field line = number_field (codes "qty_" ++ decimal line.0) line.1

-- the page of a cart with these lines
unfoldable pub cart_page : Tables → IdsAsked → ℕ → List (ℕ × ℕ) → Page
cart_page t ids cart lines = record {
  status = 200;
  title = codes "Shopping Cart";
  blocks =
      Heading (codes "Cart " ++ decimal cart)
      ∷ Table (map (line_cells t) lines)
      ∷ Para (codes "Sum " ++ cents_text (sum_by (line_cost t) lines))
      ∷ Form (codes "/shopping_cart") (map line_field lines ++ id_fields ids)
      ∷ plain_link (codes "/customer_registration") ids (codes "Checkout")
      ∷ nav ids;
}

-- the ids of that page: the customer's, and the cart's
abbrev pub ids_with : IdsAsked → ℕ → IdsAsked
ids_with ids cart = record { c = ids.c; cart = Some cart }
