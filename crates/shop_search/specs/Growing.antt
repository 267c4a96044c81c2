-- An index into which items come one by one.
use Rattle.std.specs.Prelude.{◌≡◌, ℕ, ◌<◌, false, if◌then◌else◌, List, [], ◌∷◌, ◌++◌, map, filter, take, max, Option, Some, None, option_map, unwrap_or, Vec, vec_len, vec_capacity}
use Rattle.std.specs.HashMap.{HashMap, get}
use Rattle.std.specs.Str.{bytes_eq}
use Rattle.shop_model.specs.declared.author.Author.{Author}
use Rattle.shop_model.specs.declared.requests.SearchKind.{SearchKind}
use Rattle.shop_model.specs.declared.requests.SearchKind.TheVariants as kind
use Rattle.shop_model.specs.lists.Catalogues.{Catalogue, Naming}
use Rattle.shop_model.specs.lists.Rankings.{put_among}
use Rattle.shop_model.specs.rows.Limits.{list_limit}
use Rattle.shop_search.specs.Keys.{keys_of, is_among}
use Rattle.shop_search.specs.Titles.{TitledItem, titled, by_titled, firsts}

-- what an index is over, and the item that there is room for
pub record Growth : Type 0 where
  pub contents : Catalogue
  pub room : Option Naming

-- one item more
abbrev pub with_item : Catalogue → Naming → Catalogue
with_item c item = record { items = c.items ++ item ∷ []; authors = c.authors }

-- the greatest of ids
abbrev pub greatest : List ℕ → Option ℕ
greatest [] = None
greatest (id ∷ ids) = Some (max id (unwrap_or (greatest ids) 0))

-- the items at a key
abbrev pub held_at : {S Memory : Type 0} → HashMap (List ℕ) (Vec TitledItem Memory) S → List ℕ → List TitledItem
held_at lists key = unwrap_or (option_map (λ list. list.items) (get bytes_eq lists key)) []

-- with one item more, where it is among the first
abbrev pub with_held : TitledItem → List TitledItem → List TitledItem
with_held item items = take list_limit (put_among by_titled item items)

-- there is a list at a key, with room for one item more
pub record HasRoomAt {S Memory : Type 0} (lists : HashMap (List ℕ) (Vec TitledItem Memory) S) (key : List ℕ) : Type 0 where
  pub list : Vec TitledItem Memory
  pub there : get bytes_eq lists key ≡ Some list
  pub room : vec_len list < vec_capacity list

-- an item came into the list at a key; the other lists are as they were
pub record Files {S Memory : Type 0} (old new : HashMap (List ℕ) (Vec TitledItem Memory) S) (key : List ℕ) (item : TitledItem) : Type 0 where
  pub each : (q : List ℕ) → held_at new q ≡ (if bytes_eq key q then with_held item (held_at old q) else held_at old q)
  pub others : (q : List ℕ) → bytes_eq key q ≡ false → get bytes_eq new q ≡ get bytes_eq old q

-- the same at each of these keys, once
pub record FilesAll {S Memory : Type 0} (old new : HashMap (List ℕ) (Vec TitledItem Memory) S) (keys : List (List ℕ)) (item : TitledItem) : Type 0 where
  pub each : (q : List ℕ) → held_at new q ≡ (if is_among q keys then with_held item (held_at old q) else held_at old q)
  pub others : (q : List ℕ) → is_among q keys ≡ false → get bytes_eq new q ≡ get bytes_eq old q

-- a list is opened at a key, or has more room; all lists hold what they held
pub record Widens {S Memory : Type 0} (old new : HashMap (List ℕ) (Vec TitledItem Memory) S) (key : List ℕ) : Type 0 where
  pub same : (q : List ℕ) → held_at new q ≡ held_at old q
  pub others : (q : List ℕ) → bytes_eq key q ≡ false → get bytes_eq new q ≡ get bytes_eq old q

-- each list holds the first of the items among whose keys its key is
pub record Holds {S Memory : Type 0} (c : Catalogue) (kind : SearchKind) (lists : HashMap (List ℕ) (Vec TitledItem Memory) S) : Type 0 where
  pub each : (q : List ℕ) → held_at lists q ≡ firsts (map titled (filter (λ i. is_among q (keys_of c.authors kind i)) c.items))

-- so do the lists of each kind
pub record HoldAll {S Memory : Type 0} (c : Catalogue) (titles authors subjects : HashMap (List ℕ) (Vec TitledItem Memory) S) : Type 0 where
  pub titles_held : Holds c kind.Title titles
  pub authors_held : Holds c kind.Author authors
  pub subjects_held : Holds c kind.Subject subjects
