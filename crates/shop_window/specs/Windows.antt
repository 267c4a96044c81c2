-- The latest orders, and what is known of them.
use Rattle.std.specs.Prelude.{◌≡◌, ℕ, ◌+◌, ◌≤◌, ◌==◌, List, [], ◌∷◌, length, All, min, slice_index, if◌then◌else◌, Option, None, Some}
use Rattle.shop_model.specs.rows.Limits.{lines_limit, quantity_limit, recent_orders}
use Rattle.shop_model.specs.lists.Related.{Sold, units_in_orders}

-- what contracts see of a window: how many items there are, its orders, and how many orders more it is sure to take
pub record Window : Type 0 where
  pub items : ℕ
  pub kept : List Sold
  pub room : ℕ

-- the id of the first of these orders
abbrev pub first_id : List Sold → Option ℕ
first_id [] = None
first_id (o ∷ os) = Some o.id

-- the id of the order that leaves where one more comes, of so many at most
abbrev pub leaving : ℕ → List Sold → Option ℕ
leaving most kept = if length kept == most then first_id kept else None

-- a line is of an item that there is, and has few units
pub record IsKeptLine (items : ℕ) (line : ℕ × ℕ) : Type 0 where
  pub first : 1 ≤ line.0
  pub last : line.0 ≤ items
  pub few : line.1 ≤ quantity_limit

-- few lines of items that there are
pub record IsKept (items : ℕ) (o : Sold) : Type 0 where
  pub few : length o.lines ≤ lines_limit
  pub lines : All (IsKeptLine items) o.lines

-- few orders of items that there are, and the units of each item in them
pub record AreCounted (items : ℕ) (units : List ℕ) (kept : List Sold) : Type 0 where
  pub few : length kept ≤ recent_orders
  pub orders : All (IsKept items) kept
  pub size : length units ≡ items + 1
  pub each : (item : ℕ) → item ≤ items → slice_index units item ≡ units_in_orders item kept

-- so many orders at most, counted, with room for so many more
pub record IsWindow (most items : ℕ) (kept : List Sold) (units : List ℕ) (capacity spare room : ℕ) : Type 0 where
  pub few : length kept ≤ most
  pub counted : AreCounted items units kept
  pub places : min (length kept + room) most ≤ capacity
  pub customers : room ≤ spare
