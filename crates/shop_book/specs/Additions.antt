-- What is kept of the items that were added since the opening.
use Rattle.std.specs.Prelude.{◌≡◌, ℕ, ◌-◌, ◌<◌, List, [], ◌∷◌, ◌++◌, length, Option, None, IsSome, unwrap_or, Vec, vec_len, vec_capacity}
use Rattle.shop_model.specs.declared.tables.Tables.{Tables}
use Rattle.shop_model.specs.lists.Catalogues.{Catalogue, Naming, Search, added, found}
use Rattle.shop_search.specs.Growing.{Growth, greatest, with_item}
use Rattle.shop_book.specs.Columns.{at}

-- how many items there were before, the number of the entry that added each, what searches find them in, and the item that there is room for
pub record AddedItems : Type 0 where
  pub opened : ℕ
  pub numbers : List ℕ
  pub contents : Catalogue
  pub room : Option Naming

-- the number of the entry that added an item, or 0
abbrev pub number_of : AddedItems → ℕ → ℕ
number_of a id = at a.numbers (id - a.opened)

-- the number of the last such entry, or 0
abbrev pub last_number : AddedItems → ℕ
last_number a = at a.numbers (length a.numbers)

-- that of the entry that added the item which came last among those that a search finds, or 0
abbrev pub found_number : AddedItems → Search → ℕ
found_number a search = number_of a (unwrap_or (greatest (found a.contents search.kind search.text)) 0)

-- with the item that there is room for
abbrev pub with_addition : AddedItems → Naming → ℕ → AddedItems
with_addition a item number =
    record { opened = a.opened; numbers = a.numbers ++ number ∷ []; contents = with_item a.contents item; room = None }

-- these are the items that came to the tables since
pub record AreAdded (t : Tables) (a : AddedItems) : Type 0 where
  pub opened_is : a.opened ≡ t.born_items
  pub contents_are : a.contents ≡ added t
  pub size : length a.numbers ≡ length t.items - t.born_items

-- there is room for a number where there is for an item, and one row shows that none is found
pub record IsAdditions {Memory : Type 0} (numbers : Vec ℕ Memory) (index : Growth) (none : List ℕ) : Type 0 where
  pub place : IsSome index.room → vec_len numbers < vec_capacity numbers
  pub none_is : none ≡ []
