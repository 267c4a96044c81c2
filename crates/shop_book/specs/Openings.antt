-- What a shop may open with.
use Rattle.std.specs.Prelude.{◌≡◌, ℕ, ◌+◌, ◌≤◌, length}
use Rattle.shop_history.specs.Logs.{IsGood}
use Rattle.shop_book.specs.declared.opening.Opening.{Opening}

-- the most entries that a log may have
abbrev pub most_entries : ℕ
most_entries = 1_000_000

-- sound tables with room for one entry more than the log may have, whose orders and items were all there before the shop
pub record IsOpening (o : Opening) : Type 0 where
  pub good : IsGood o.tables (o.limit + 1)
  pub born : o.tables.born_orders ≡ length o.tables.orders
  pub born_items : o.tables.born_items ≡ length o.tables.items
  pub bound : o.limit ≤ most_entries
