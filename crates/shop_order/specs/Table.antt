-- The table of a cart's lines and their sum, by reads of the items.
use Rattle.std.specs.Prelude.{◌≡◌, ℕ, ◌*◌, List, [], ◌∷◌, sum_by, decimal}
use Rattle.shop_text.specs.Texts.{cents_text}
use Rattle.shop_model.specs.declared.tables.Tables.{Tables}
use Rattle.shop_model.specs.pages.ShoppingCart.{line_cost}
use Rattle.shop_history.specs.declared.keys.Row.{Row}
use Rattle.shop_history.specs.declared.keys.Row.TheVariants as row
use Rattle.shop_attempt.specs.declared.attempts.ReadOf.{ReadOf}
use Rattle.shop_attempt.specs.Reads.{Shows}

-- the title of the item in a row; another row has none
abbrev pub title_in : Row → List ℕ
title_in (row.Item item) = item.title
title_in _ = []

-- what one unit of the item in a row costs; another row has no cost
abbrev pub cost_in : Row → ℕ
cost_in (row.Item item) = item.cost
cost_in _ = 0

-- a line of the item in a row as a row of the table
abbrev pub cells_in : ℕ × ℕ → Row → List (List ℕ)
cells_in line row =
    decimal line.0
    ∷ title_in row
    ∷ decimal line.1
    ∷ cents_text (cost_in row)
    ∷ cents_text (cost_in row * line.1)
    ∷ []

-- what the lines cost in whichever tables show the items
abbrev pub IsSumOf : List (ℕ × ℕ) → List ReadOf → ℕ → Type 0
IsSumOf lines items sum = (t : Tables) → Shows t items → sum ≡ sum_by (line_cost t) lines
