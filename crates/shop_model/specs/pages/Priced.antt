-- The table of priced lines, and the paragraph of what they come to; this project's own wording.
use Rattle.std.specs.Prelude.{ℕ, ◌+◌, ◌*◌, List, [], ◌∷◌, ◌++◌, map, codes, decimal}
use Rattle.shop_text.specs.Texts.{cents_text}
use Rattle.shop_model.specs.declared.page.Block.{Block}
use Rattle.shop_model.specs.declared.page.Block.TheVariants.{Table}
use Rattle.shop_model.specs.declared.tables.Tables.{Tables}
use Rattle.shop_model.specs.rows.Lookups.{title_of, cost_of}
use Rattle.shop_model.specs.rows.Rows.{LineRow}
use Rattle.shop_model.specs.trade.Money.{Money}

-- so many units of an item, at a cost each, as a row: item, title, quantity, cost of one, cost of all
unfoldable pub priced_cells : Tables → ℕ → ℕ → ℕ → List (List ℕ)
priced_cells t item quantity cost =
    decimal item
    ∷ title_of t item
    ∷ decimal quantity
    ∷ cents_text cost
    ∷ cents_text (cost * quantity)
    ∷ []

-- a line of an order, at what it was charged
abbrev pub line_cells : Tables → LineRow → List (List ℕ)
line_cells t line = priced_cells t line.item line.quantity line.cost

-- the table of an order's lines
unfoldable pub lines_table : Tables → List LineRow → Block
lines_table t lines = Table (map (line_cells t) lines)

-- lines of a cart as those of an order, numbered from here, at what the items cost
unfoldable pub order_lines : Tables → ℕ → List (ℕ × ℕ) → List LineRow
order_lines t number [] = []
order_lines t number (line ∷ lines) =
    record { number = number; item = line.0; quantity = line.1; cost = cost_of t line.0 } ∷ order_lines t (number + 1) lines

-- what an order comes to
unfoldable pub totals_text : Money → List ℕ
totals_text money =
    codes "Subtotal " ++ cents_text money.sub
    ++ codes ", tax " ++ cents_text money.tax
    ++ codes ", shipping " ++ cents_text money.ship
    ++ codes ", total " ++ cents_text money.total
