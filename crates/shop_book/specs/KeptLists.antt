-- What is kept of the latest orders and of the items.
use Rattle.std.specs.Prelude.{◌≡◌, ℕ, ◌≤◌, max, List, length, map, All}
use Rattle.shop_model.specs.declared.tables.Tables.{Tables}
use Rattle.shop_model.specs.lists.Rankings.{best, newest}
use Rattle.shop_model.specs.lists.Related.{sold_of, last, recent}
use Rattle.shop_model.specs.rows.Limits.{lines_limit, counted_orders, items_limit}
use Rattle.shop_model.specs.rows.Rows.{ItemRow, OrderRow}
use Rattle.shop_model.specs.rows.Sound.{Has}
use Rattle.shop_model.specs.rows.Subjects.{subjects}
use Rattle.shop_ranking.specs.StandingBest.{Units, AreSoldLately}
use Rattle.shop_ranking.specs.StandingNewest.{AreAsPublished}
use Rattle.std.specs.HashSet.{spare}
use Rattle.shop_book.specs.declared.lists.Lists.{Lists}
use Rattle.shop_book.specs.Auths.{AreAuths}

-- a window over so many items takes the order in
pub record IsAdmitted (size : ℕ) (o : OrderRow) : Type 0 where
  pub few : length o.lines ≤ lines_limit
  pub items : All (λ l. Has size l.item) o.lines

-- so many units stand of each of these items
pub record UnitsAre (items : List ItemRow) (sold : ℕ → ℕ) (best : Units) : Type 0 where
  pub subjects : best.subjects ≡ map (λ i. i.subject) items
  pub units : best.units ≡ map (λ i. sold i.id) items

-- the windows are over the items of these tables, with as many as may be added, and hold their latest orders, the units that stand of each item are those that
-- were sold and the days those of its publication, the lists are shown, and the authorisations are those of the orders
pub record AreLists (t : Tables) (lists : Lists) : Type 0 where
  pub sold_items : max items_limit (length t.items) ≤ lists.sold.items
  pub recent_items : max items_limit (length t.items) ≤ lists.recent.items
  pub sold : lists.sold.kept ≡ map sold_of (last counted_orders t.orders)
  pub recent : lists.recent.kept ≡ recent t
  pub units : AreSoldLately t lists.best
  pub days : AreAsPublished t lists.newest
  pub best_rows : lists.best_rows.items ≡ map (best t) subjects
  pub newest_rows : lists.newest_rows.items ≡ map (newest t) subjects
  pub auths : AreAuths t.orders lists.auths

-- each window is sure to take one order more, and there is room for its authorisation
pub record HasRoom (lists : Lists) : Type 0 where
  pub sold : 1 ≤ lists.sold.room
  pub recent : 1 ≤ lists.recent.room
  pub auths : 1 ≤ spare lists.auths.there
