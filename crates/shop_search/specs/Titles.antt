-- Items by their titles, in the order of lists.
use Rattle.std.specs.Prelude.{ℕ, List, map, filter, take}
use Rattle.std.specs.Cmp.Lexicographic.{slice_cmp}
use Rattle.std.specs.Ordering.{ordering_then, nat_cmp}
use Rattle.std.specs.declared.cmp.Ordering.{Ordering}
use Rattle.shop_model.specs.declared.requests.SearchKind.{SearchKind}
use Rattle.shop_model.specs.lists.Catalogues.{Catalogue, Naming, matches}
use Rattle.shop_model.specs.lists.Rankings.{in_order}
use Rattle.shop_model.specs.rows.Limits.{list_limit}

-- what the order of lists reads of an item
pub record TitledItem : Type 0 where
  pub title : List ℕ
  pub id : ℕ

-- that of what never changes of it
abbrev pub titled : Naming → TitledItem
titled i = record { title = i.title; id = i.id }

-- titles in the order of their bytes, then smaller ids
abbrev pub by_titled : TitledItem → TitledItem → Ordering
by_titled a b = ordering_then (slice_cmp nat_cmp a.title b.title) (nat_cmp a.id b.id)

-- the first of these
abbrev pub firsts : List TitledItem → List TitledItem
firsts items = take list_limit (in_order by_titled items)

-- the first items that match, with their titles
abbrev pub firsts_found : Catalogue → SearchKind → List ℕ → List TitledItem
firsts_found c kind text = firsts (map titled (filter (matches c kind text) c.items))
