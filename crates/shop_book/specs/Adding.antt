-- What an item that is added changes of the lists that are kept.
use Rattle.std.specs.Prelude.{◌≡◌, ℕ, ◌<◌, length}
use Rattle.shop_model.specs.asked.AddAsked.{AddAsked}
use Rattle.shop_model.specs.declared.tables.Tables.{Tables}
use Rattle.shop_model.specs.rows.Limits.{items_limit}
use Rattle.shop_model.specs.rows.Sound.{Sound}
use Rattle.shop_model.specs.trade.Adding.{tables_added}
use Rattle.shop_book.specs.declared.addition.Addition.{Addition}
use Rattle.shop_book.specs.declared.rows.Rows.{Rows}
use Rattle.shop_book.specs.Planning.{IsAddition}

-- the item was added to these tables, where there was room for it, and these are the rows after it
pub record IsAdded (t : Tables) (stamp : ℕ) (asked : AddAsked) (a : Addition) (rows : Rows) : Type 0 where
  pub sound : Sound t
  pub room : length t.items < items_limit
  pub addition : IsAddition t asked a
  pub items : rows.items.items ≡ (tables_added t stamp asked).items
  pub sound_after : Sound (tables_added t stamp asked)
