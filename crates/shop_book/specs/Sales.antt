-- What an order changes of the lists that are kept, part by part.
use Rattle.std.specs.Prelude.{◌≡◌, ◌≢◌, ℕ, ◌+◌, ◌-◌, ◌<◌, ◌≤◌, max, ◌⊎◌, Bool, false, List, [], ◌∷◌, ◌++◌, length, map, filter, All, Contains, Option, Some, None, option_map, unwrap_or, slice_get, slice_index, get_or}
use Rattle.std.specs.List.{list_any}
use Rattle.shop_model.specs.declared.subject.Subject.{Subject}
use Rattle.shop_model.specs.declared.subject.Subject.TheVariants.{Arts}
use Rattle.shop_model.specs.declared.tables.Tables.{Tables}
use Rattle.shop_model.specs.lists.Rankings.{best}
use Rattle.shop_model.specs.lists.Related.{Sold, sold_of, last, is_of, has_item, recent}
use Rattle.shop_model.specs.rows.Limits.{counted_orders, items_limit}
use Rattle.shop_model.specs.rows.Lookups.{row_numbered}
use Rattle.shop_model.specs.rows.Rows.{ItemRow, OrderRow}
use Rattle.shop_model.specs.rows.Sound.{Sound, Has, HasLines, units_in}
use Rattle.shop_model.specs.rows.Subjects.{subjects}
use Rattle.shop_model.specs.trade.Sales.{sold_item}
use Rattle.shop_history.specs.declared.keys.Key as key
use Rattle.shop_history.specs.declared.keys.Key.{Key}
use Rattle.shop_history.specs.MayChange.{items_of, of_left}
use Rattle.shop_ranking.specs.StandingBest.{Units, AreSoldLately}
use Rattle.shop_book.specs.declared.lists.Lists.{Lists}
use Rattle.shop_book.specs.declared.rows.Rows.{Rows}

-- the items of an order are among so many
abbrev pub AreThere : ℕ → OrderRow → Type 0
AreThere size order = All (λ l. Has size l.item) order.lines

-- an order came to these tables, and these are the rows after it
pub record IsSale (t : Tables) (order : OrderRow) (rows : Rows) : Type 0 where
  pub sound : Sound t
  pub orders : rows.orders.items ≡ t.orders ++ order ∷ []
  pub items : rows.items.items ≡ map (sold_item order) t.items
  pub customers : length rows.customers.items ≡ length t.customers
  pub lines : HasLines order
  pub buyer : Has (length t.customers) order.customer
  pub there : AreThere (length t.items) order

-- the units of these items stand as they were sold; of others they stand so, or as they did
pub record Bumps (sold : ℕ → ℕ) (was : Units) (done : List ℕ) (now : Units) : Type 0 where
  pub subjects : now.subjects ≡ was.subjects
  pub size : length now.units ≡ length was.units
  pub each : (place : ℕ) → place < length was.units
      → (slice_index now.units place ≡ slice_index was.units place) ⊎ (slice_index now.units place ≡ sold (place + 1))
  pub all : (item : ℕ) → Contains done item → Has (length was.units) item → slice_index now.units (item - 1) ≡ sold item

-- a subject's list is as it was, and its version; or it is now another one, with this number as its version
abbrev pub IsRenewed : List ℕ → List ℕ → ℕ → List ℕ → ℕ → ℕ → Type 0
IsRenewed was is number list version version' =
    ((list ≡ was) × (version' ≡ version)) ⊎ ((list ≡ is) × (was ≢ is) × (version' ≡ number))

-- the lists of these subjects are as they are to be, and others so, or as they were; and so are their versions
pub record Renews (was is : Subject → List ℕ) (number : ℕ) (done : List Subject) (lists : List (List ℕ)) (old new : Key → ℕ) : Type 0 where
  pub size : length lists ≡ length subjects
  pub each : (place : ℕ) (subject : Subject) → slice_get subjects place ≡ Some subject
      → IsRenewed (was subject) (is subject) number (get_or lists place []) (old (key.TheVariants.BestIn subject)) (new (key.TheVariants.BestIn subject))
  pub all : (place : ℕ) (subject : Subject) → slice_get subjects place ≡ Some subject → Contains done subject → get_or lists place [] ≡ is subject
  pub others : (k : Key) → ((subject : Subject) → k ≢ key.TheVariants.BestIn subject) → new k ≡ old k

-- the buyers of these items get this number as their version where the test fails, and no other key does
pub record RaisesBuyers (has : ℕ → Bool) (items : List ℕ) (number : ℕ) (old new : Key → ℕ) : Type 0 where
  pub each : (k : Key) → (new k ≡ old k)
      ⊎ ((item : ℕ) × (k ≡ key.TheVariants.Buyers item) × Contains items item × (has item ≡ false) × (new k ≡ number))
  pub all : (item : ℕ) → Contains items item → has item ≡ false → new (key.TheVariants.Buyers item) ≡ number

-- two orders have as many units of each item
abbrev pub HaveSameUnits : OrderRow → OrderRow → Type 0
HaveSameUnits one other = (item : ℕ) → units_in item one.lines ≡ units_in item other.lines

-- a customer buys other things than before, where this order comes and that one is forgotten
abbrev pub BuysElse : OrderRow → Option OrderRow → ℕ → Type 0
BuysElse coming None customer = customer ≡ coming.customer
BuysElse coming (Some gone) customer =
    ((customer ≡ coming.customer) ⊎ (customer ≡ gone.customer))
    × (gone.customer ≡ coming.customer → HaveSameUnits coming gone → ⊥)

-- what these customers bought gets this number as its version, and no other key does
pub record RaisesBought (buys : ℕ → Type 0) (number : ℕ) (old new : Key → ℕ) : Type 0 where
  pub each : (k : Key) → (new k ≡ old k) ⊎ ((customer : ℕ) × (k ≡ key.TheVariants.Bought customer) × buys customer × (new k ≡ number))
  pub all : (customer : ℕ) → buys customer → new (key.TheVariants.Bought customer) ≡ number

-- the subject of the item with an id
abbrev pub subject_in : List ItemRow → ℕ → Subject
subject_in items item = unwrap_or (option_map (λ i. i.subject) (row_numbered items item)) Arts

-- the subjects of an order's items, a line each
abbrev pub subjects_in : List ItemRow → OrderRow → List Subject
subjects_in items order = map (subject_in items) (items_of order)

-- whether a customer has ordered an item
abbrev pub has_bought : List Sold → ℕ → ℕ → Bool
has_bought orders customer item = list_any (has_item item) (filter (is_of customer) orders)

-- the lists of best sold items are those of these tables, and so is what they are made of
pub record AreRanked (t : Tables) (lists : Lists) : Type 0 where
  pub items : max items_limit (length t.items) ≤ lists.sold.items
  pub sold : lists.sold.kept ≡ map sold_of (last counted_orders t.orders)
  pub units : AreSoldLately t lists.best
  pub best_rows : lists.best_rows.items ≡ map (best t) subjects

-- the window of those that related items are counted over is that of these tables
pub record IsRemembered (t : Tables) (lists : Lists) : Type 0 where
  pub items : max items_limit (length t.items) ≤ lists.recent.items
  pub kept : lists.recent.kept ≡ recent t

-- the items of an order that leaves a window, where one does, and their subjects
abbrev pub gone_items : Option OrderRow → List ℕ
gone_items gone = of_left items_of gone

abbrev pub gone_subjects : List ItemRow → Option OrderRow → List Subject
gone_subjects items gone = of_left (subjects_in items) gone

-- the buyers of its items are raised who are no longer among those of this window
abbrev pub RaisesGone : List Sold → Option OrderRow → ℕ → (Key → ℕ) → (Key → ℕ) → Type 0
RaisesGone kept None number old new = (k : Key) → new k ≡ old k
RaisesGone kept (Some order) number old new = RaisesBuyers (has_bought kept order.customer) (items_of order) number old new
