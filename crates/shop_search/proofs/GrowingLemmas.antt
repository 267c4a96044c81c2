-- What an index holds as items come into it.
use Rattle.std.proofs.Common.{◌≡◌, ℕ, ◌+◌, ◌<◌, cond, List, [], ◌∷◌, ◌++◌, length, get_or, take, map, refl, sym, ap, ◌∙◌, subst, arith, HashMap}
use Rattle.std.specs.Prelude.{max, Option, Some, unwrap_or, Vec}
use Rattle.std.specs.HashMap.{IsEmpty}
use Rattle.std.specs.List.Sorted.{IsSorted}
use Rattle.std.proofs.lemmas.List.{map-append, take_more}
use Rattle.shop_model.specs.declared.author.Author.{Author}
use Rattle.shop_model.specs.declared.requests.SearchKind.{SearchKind}
use Rattle.shop_model.specs.declared.requests.SearchKind.TheVariants as kind
use Rattle.shop_model.specs.lists.Catalogues.{Catalogue, Naming, compared, matches}
use Rattle.shop_model.specs.lists.Rankings.{in_order}
use Rattle.shop_model.specs.rows.Limits.{list_limit}
use Rattle.shop_ranking.proofs.cited.Firsts.{first_sorted}
use Rattle.shop_search.specs.declared.filing.Filing.{Filing}
use Rattle.shop_search.specs.declared.filing.Room.{Room}
use Rattle.shop_search.specs.Filings.{filed_keys, AreReadyFor, IsReadyRoom}
use Rattle.shop_search.specs.Growing.{held_at, with_held, with_item, greatest, FilesAll, Holds, HoldAll}
use Rattle.shop_search.specs.Keys.{keys_of, is_among}
use Rattle.shop_search.specs.Titles.{TitledItem, titled, by_titled, firsts, firsts_found}
use Rattle.shop_search.proofs.Filling.{filter_same}
use Rattle.shop_search.proofs.Matching.{matches_key}
use Rattle.shop_search.proofs.TitledLemmas.{by_titled_strict, firsts_more}

-- before the first item
holds_none : {S Memory : Type 0} (lists : HashMap (List ℕ) (Vec TitledItem Memory) S) (authors : List Author) (kind : SearchKind)
    → IsEmpty lists → Holds (record { items = []; authors = authors }) kind lists
unfolding in_order
holds_none lists authors kind empty = record { each = λ q. rw empty refl }

pub hold_none : {S Memory : Type 0} (titles authors subjects : HashMap (List ℕ) (Vec TitledItem Memory) S) (all : List Author) (items : List Naming)
    → items ≡ [] → IsEmpty titles → IsEmpty authors → IsEmpty subjects → HoldAll (record { items = items; authors = all }) titles authors subjects
hold_none titles authors subjects all items none no_titles no_authors no_subjects =
    subst (λ (items : List Naming). HoldAll (record { items = items; authors = all }) titles authors subjects) (sym none) (record {
      titles_held = holds_none titles all kind.Title no_titles;
      authors_held = holds_none authors all kind.Author no_authors;
      subjects_held = holds_none subjects all kind.Subject no_subjects;
    })

-- lists that hold the same
holds_same : {S Memory : Type 0} {was now : HashMap (List ℕ) (Vec TitledItem Memory) S} (c : Catalogue) (kind : SearchKind)
    → ((q : List ℕ) → held_at now q ≡ held_at was q) → Holds c kind was → Holds c kind now
holds_same c kind same holds = record { each = λ q. same q ∙ holds.each q }

pub holds_sorted : {S Memory : Type 0} {lists : HashMap (List ℕ) (Vec TitledItem Memory) S} (c : Catalogue) (kind : SearchKind)
    → Holds c kind lists → (q : List ℕ) → IsSorted by_titled (held_at lists q)
holds_sorted c kind holds q = rw (holds.each q) (first_sorted by_titled by_titled_strict.total list_limit _)

-- an item came into the lists at its keys
holds_more : {S Memory : Type 0} {old new : HashMap (List ℕ) (Vec TitledItem Memory) S} (c : Catalogue) (kind : SearchKind) (item : Naming) (filings : List Filing)
    → Holds c kind old → AreReadyFor old (titled item) (keys_of c.authors kind item) filings
    → FilesAll old new (filed_keys filings) (titled item) → Holds (with_item c item) kind new
holds_more {old = old} {new = new} c kind item filings holds ready files = record {
  each = λ q.
      files.each q
      ∙ ap (λ b. cond b (with_held (titled item) (held_at old q)) (held_at old q)) (ready.among q)
      ∙ ap (λ items. cond (is_among q (keys_of c.authors kind item)) (with_held (titled item) items) items) (holds.each q)
      ∙ firsts_more (λ i. is_among q (keys_of c.authors kind i)) c.items item;
}

-- the lists of each kind hold the same
pub hold_same : {S Memory : Type 0} {titles titles_now authors authors_now subjects subjects_now : HashMap (List ℕ) (Vec TitledItem Memory) S} (all : List Author) (items now : List Naming)
    → now ≡ items
    → ((q : List ℕ) → held_at titles_now q ≡ held_at titles q) → ((q : List ℕ) → held_at authors_now q ≡ held_at authors q) → ((q : List ℕ) → held_at subjects_now q ≡ held_at subjects q)
    → HoldAll (record { items = items; authors = all }) titles authors subjects → HoldAll (record { items = now; authors = all }) titles_now authors_now subjects_now
hold_same {titles_now = titles_now} {authors_now = authors_now} {subjects_now = subjects_now} all items now is titles_same authors_same subjects_same held =
    subst (λ (items : List Naming). HoldAll (record { items = items; authors = all }) titles_now authors_now subjects_now) (sym is) (record {
      titles_held = holds_same (record { items = items; authors = all }) kind.Title titles_same held.titles_held;
      authors_held = holds_same (record { items = items; authors = all }) kind.Author authors_same held.authors_held;
      subjects_held = holds_same (record { items = items; authors = all }) kind.Subject subjects_same held.subjects_held;
    })

-- an item that there was room for came into them
pub hold_more : {S Memory : Type 0} {titles titles_now authors authors_now subjects subjects_now : HashMap (List ℕ) (Vec TitledItem Memory) S} (all : List Author) (items now : List Naming) (room : Room)
    → now ≡ items ++ room.named ∷ []
    → HoldAll (record { items = items; authors = all }) titles authors subjects → IsReadyRoom all titles authors subjects room
    → FilesAll titles titles_now (filed_keys room.titles.items) (titled room.named) → FilesAll authors authors_now (filed_keys room.authors.items) (titled room.named)
    → FilesAll subjects subjects_now (filed_keys room.subjects.items) (titled room.named)
    → HoldAll (record { items = now; authors = all }) titles_now authors_now subjects_now
hold_more {titles_now = titles_now} {authors_now = authors_now} {subjects_now = subjects_now} all items now room is held ready titles_filed authors_filed subjects_filed =
    subst (λ (items : List Naming). HoldAll (record { items = items; authors = all }) titles_now authors_now subjects_now) (sym is) (record {
      titles_held = holds_more (record { items = items; authors = all }) kind.Title room.named room.titles.items held.titles_held ready.titles_ready titles_filed;
      authors_held = holds_more (record { items = items; authors = all }) kind.Author room.named room.authors.items held.authors_held ready.authors_ready authors_filed;
      subjects_held = holds_more (record { items = items; authors = all }) kind.Subject room.named room.subjects.items held.subjects_held ready.subjects_ready subjects_filed;
    })

-- what is held at the key of a text is what is found
held_is_found : {S Memory : Type 0} {lists : HashMap (List ℕ) (Vec TitledItem Memory) S} (c : Catalogue) (kind : SearchKind) (text : List ℕ)
    → Holds c kind lists → compared kind text ≡ text → held_at lists text ≡ firsts_found c kind text
held_is_found c kind text holds form =
    holds.each text
    ∙ ap (λ items. firsts (map titled items))
    (filter_same (λ i. is_among text (keys_of c.authors kind i)) (matches c kind text)
    (λ i. matches_key c kind text i ∙ ap (λ key. is_among key (keys_of c.authors kind i)) form) c.items)

pub held_answers : {S Memory : Type 0} {lists : HashMap (List ℕ) (Vec TitledItem Memory) S} (c now : Catalogue) (kind asked : SearchKind) (text : List ℕ) (held : List TitledItem)
    → Holds c kind lists → c ≡ now → asked ≡ kind → compared asked text ≡ text → held ≡ held_at lists text → held ≡ firsts_found now asked text
held_answers c now kind asked text held holds same is form at =
    at ∙ held_is_found c kind text holds (subst (λ k. compared k text ≡ text) is form)
    ∙ ap (λ k. firsts_found c k text) (sym is) ∙ ap (λ c. firsts_found c asked text) same

-- with one id more
greatest_more : (ids : List ℕ) (id : ℕ) → greatest (ids ++ id ∷ []) ≡ Some (max id (unwrap_or (greatest ids) 0))
greatest_more [] id = refl
greatest_more (first ∷ ids) id =
    let rest = greatest_more ids id in
    ap (λ (m : ℕ). Some m) (ap (λ (o : Option ℕ). max first (unwrap_or o 0)) rest ∙ omega arith)

pub greatest_next : (items : List TitledItem) (i : ℕ) (item : TitledItem) → i < length items → item ≡ get_or items i item
    → greatest (map (λ f. f.id) (take (i + 1) items)) ≡ Some (max item.id (unwrap_or (greatest (map (λ f. f.id) (take i items))) 0))
greatest_next items i item within here =
    ap greatest (ap (map (λ (f : TitledItem). f.id)) (take_more items i item within ∙ ap (λ f. take i items ++ f ∷ []) (sym here))
    ∙ map-append (λ (f : TitledItem). f.id) (take i items) (item ∷ []))
    ∙ greatest_more (map (λ f. f.id) (take i items)) item.id
