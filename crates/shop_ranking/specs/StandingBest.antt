-- The best sold items by the units that stand of each item. The items are numbered from 1.
use Rattle.std.specs.Prelude.{◌≡◌, ℕ, ◌+◌, Bool, nat_lt, List, [], ◌∷◌, map, take}
use Rattle.shop_model.specs.declared.subject.Subject.{Subject}
use Rattle.shop_model.specs.declared.tables.Tables.{Tables}
use Rattle.shop_model.specs.rows.Limits.{list_limit}
use Rattle.shop_model.specs.lists.Rankings.{Sale, in_order, better, sold_lately}
use Rattle.shop_ranking.specs.Standing.{listed}

-- the subjects of the items, and the units that stand of each
pub record Units : Type 0 where
  pub subjects : List Subject
  pub units : List ℕ

-- whether an item has units
abbrev pub is_sold : Sale → Bool
is_sold sale = nat_lt 0 sale.units

-- the sales of items that are numbered from this id
unfoldable pub sales_from : ℕ → List ℕ → List Sale
sales_from id [] = []
sales_from id (units ∷ more) = record { id = id; units = units } ∷ sales_from (id + 1) more

-- the items of a subject of which some units stand
abbrev pub standing_sales : Units → Subject → List Sale
standing_sales u subject = listed is_sold subject u.subjects (sales_from 1 u.units)

-- the ids of the best sold items of a subject
unfoldable pub standing_best : Units → Subject → List ℕ
standing_best u subject = map (λ s. s.id) (take list_limit (in_order better (standing_sales u subject)))

-- where of each item the units stand that were sold lately
pub record AreSoldLately (t : Tables) (u : Units) : Type 0 where
  pub subjects : u.subjects ≡ map (λ i. i.subject) t.items
  pub units : u.units ≡ map (λ i. sold_lately t i.id) t.items
