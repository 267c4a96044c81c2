-- Tables that a worker at the desk may open a shop with.
use Rattle.std.specs.Prelude.{◌≡◌, ◌+◌, List, ◌∷◌, length}
use Rattle.shop_model.specs.declared.address.Address.{Address}
use Rattle.shop_model.specs.declared.tables.Tables.{Tables}
use Rattle.shop_model.specs.population.Scales.{desk}
use Rattle.shop_history.specs.Logs.{IsGood}
use Rattle.shop_book.specs.Openings.{most_entries}

-- sound tables with as many items as the desk has and room for every log, whose orders and items were all there before
pub record IsDesk (t : Tables) : Type 0 where
  pub good : IsGood t (most_entries + 1)
  pub born : t.born_orders ≡ length t.orders
  pub born_items : t.born_items ≡ length t.items
  pub items : length t.items ≡ desk.items

-- the second address says what the first one does
unfoldable pub twinned : List Address → List Address
twinned (first ∷ second ∷ rest) = first ∷ record second { text = first.text } ∷ rest
twinned addresses = addresses
