-- What the administration of an item changes of the lists that are kept.
use Rattle.std.specs.Prelude.{◌≡◌, ◌≢◌, ℕ, List, Some}
use Rattle.shop_model.specs.asked.AdminAsked.{AdminAsked}
use Rattle.shop_model.specs.declared.subject.Subject.{Subject}
use Rattle.shop_model.specs.declared.tables.Tables.{Tables}
use Rattle.shop_model.specs.rows.Lookups.{row_numbered}
use Rattle.shop_model.specs.rows.Rows.{ItemRow}
use Rattle.shop_model.specs.rows.Sound.{Sound}
use Rattle.shop_model.specs.trade.Mending.{tables_mended}
use Rattle.shop_history.specs.declared.keys.Key as key
use Rattle.shop_history.specs.declared.keys.Key.{Key}
use Rattle.shop_book.specs.declared.rows.Rows.{Rows}
use Rattle.shop_book.specs.Sales.{IsRenewed}

-- the item with an id was administered in these tables, and these are the rows after it
pub record IsMended (t : Tables) (stamp : ℕ) (asked : AdminAsked) (item : ℕ) (rows : Rows) : Type 0 where
  pub sound : Sound t
  pub asks : item ≡ asked.item
  pub row : ItemRow
  pub there : row_numbered t.items asked.item ≡ Some row
  pub items : rows.items.items ≡ (tables_mended t stamp asked).items

-- the list of a subject's newest items was this one and is now that one; where these differ, its key gets this number as its version, and no other key does
pub record IsListedAnew (was is : List ℕ) (number : ℕ) (subject : Subject) (old new : Key → ℕ) : Type 0 where
  pub here : IsRenewed was is number is (old (key.TheVariants.NewIn subject)) (new (key.TheVariants.NewIn subject))
  pub others : (k : Key) → k ≢ key.TheVariants.NewIn subject → new k ≡ old k
