-- An item that is ready to come into lists.
use Rattle.std.specs.Prelude.{◌≡◌, ℕ, ◌<◌, true, false, All, List, [], ◌∷◌, ◌++◌, map, Option, Some, None, IsSome, Vec, vec_len, vec_capacity}
use Rattle.std.specs.HashMap.{HashMap}
use Rattle.shop_model.specs.declared.requests.SearchKind.TheVariants as kind
use Rattle.shop_model.specs.declared.author.Author.{Author}
use Rattle.shop_model.specs.lists.Catalogues.{Naming}
use Rattle.shop_search.specs.declared.filing.Filing.{Filing}
use Rattle.shop_search.specs.declared.filing.Room.{Room}
use Rattle.shop_search.specs.Growing.{FilesAll, HasRoomAt, HoldAll}
use Rattle.shop_search.specs.Keys.{keys_of, is_among}
use Rattle.shop_search.specs.Titles.{TitledItem, titled}

-- the keys
abbrev pub filed_keys : List Filing → List (List ℕ)
filed_keys filings = map (λ f. f.key) filings

-- none of these keys is among those that were seen, or comes twice
abbrev pub AllFresh : List (List ℕ) → List Filing → Type 0
AllFresh seen [] = Unit {0}
AllFresh seen (f ∷ filings) = (is_among f.key seen ≡ false) × AllFresh (seen ++ f.key ∷ []) filings

-- there is room for this item at each of these keys, none of which comes twice
pub record AreReady {S Memory : Type 0} (lists : HashMap (List ℕ) (Vec TitledItem Memory) S) (item : TitledItem) (filings : List Filing) : Type 0 where
  pub filed : All (λ f. f.item ≡ item) filings
  pub fresh : AllFresh [] filings
  pub room : (q : List ℕ) → is_among q (filed_keys filings) ≡ true → HasRoomAt lists q

-- and they are these keys
pub record AreReadyFor {S Memory : Type 0} (lists : HashMap (List ℕ) (Vec TitledItem Memory) S) (item : TitledItem) (keys : List (List ℕ)) (filings : List Filing) : Type 0 where
  pub ready : AreReady lists item filings
  pub among : (q : List ℕ) → is_among q (filed_keys filings) ≡ is_among q keys

-- of these lists, an item came into those at the keys that are behind, and is ready to come into those before
pub record IsFiling {S Memory : Type 0} (old now : HashMap (List ℕ) (Vec TitledItem Memory) S) (item : TitledItem) (behind before : List Filing) : Type 0 where
  pub done : FilesAll old now (filed_keys behind) item
  pub filed : All (λ f. f.item ≡ item) before
  pub fresh : AllFresh (filed_keys behind) before
  pub room : (q : List ℕ) → is_among q (filed_keys before) ≡ true → HasRoomAt old q

-- there is room for an item in the lists of each kind
pub record IsReadyRoom {S Memory : Type 0} (all : List Author) (titles authors subjects : HashMap (List ℕ) (Vec TitledItem Memory) S) (room : Room) : Type 0 where
  pub titles_ready : AreReadyFor titles (titled room.named) (keys_of all kind.Title room.named) room.titles.items
  pub authors_ready : AreReadyFor authors (titled room.named) (keys_of all kind.Author room.named) room.authors.items
  pub subjects_ready : AreReadyFor subjects (titled room.named) (keys_of all kind.Subject room.named) room.subjects.items

-- there is, if there is room for one
abbrev pub MayBeReady : {S Memory : Type 0} → List Author → (titles authors subjects : HashMap (List ℕ) (Vec TitledItem Memory) S) → Option Room → Type 0
MayBeReady all titles authors subjects None = Unit {0}
MayBeReady all titles authors subjects (Some room) = IsReadyRoom all titles authors subjects room

-- an index that keeps lists of what it is over, and what it keeps of an item that there is room for
pub record IsGrowing {S Memory ItemMemory : Type 0} (all : List Author) (items : Vec Naming ItemMemory) (titles authors subjects : HashMap (List ℕ) (Vec TitledItem Memory) S) (room : Option Room) : Type 0 where
  pub held : HoldAll (record { items = items.items; authors = all }) titles authors subjects
  pub ready : MayBeReady all titles authors subjects room
  pub place : IsSome room → vec_len items < vec_capacity items
