-- What is kept of added items, and the versions that it gives, where an item is added and where none is.
use Rattle.std.proofs.Common.{◌≡◌, ◌≢◌, ℕ, zero, suc, ◌+◌, ◌-◌, ◌<◌, ◌≤◌, List, [], ◌∷◌, ◌++◌, length, map, drop, Contains, Option, Some, None, unwrap_or, ◌⊎◌, inl, inr, ⊎_elim, refl, sym, ◌∙◌, ap, subst, arith, length-append}
use Rattle.std.specs.Prelude.{All}
use Rattle.std.proofs.lemmas.Bool.{cases_eq}
use Rattle.std.proofs.lemmas.List.{length-map}
use Rattle.std.proofs.lemmas.List.Elements.{All-drop, All-map, All-weaker}
use Rattle.shop_model.specs.declared.author.Author.{Author}
use Rattle.shop_model.specs.declared.buying.Buyer.{Buyer}
use Rattle.shop_model.specs.declared.buying.Buyer.TheVariants.{Returning, Newcomer}
use Rattle.shop_model.specs.declared.tables.Tables.{Tables}
use Rattle.shop_model.specs.asked.AddAsked.{AddAsked}
use Rattle.shop_model.specs.asked.AdminAsked.{AdminAsked}
use Rattle.shop_model.specs.asked.PurchaseAsked.{PurchaseAsked}
use Rattle.shop_model.specs.lists.Catalogues.{Catalogue, Naming, Search, added, found, naming}
use Rattle.shop_model.specs.rows.Lookups.{row_numbered}
use Rattle.shop_model.specs.rows.Rows.{CustomerRow, ItemRow}
use Rattle.shop_model.specs.rows.Sound.{Sound}
use Rattle.shop_model.specs.trade.Adding.{added_item, with_item}
use Rattle.shop_model.specs.trade.Buyers.{tables_entered}
use Rattle.shop_model.specs.trade.Mending.{mended_item, with_mended}
use Rattle.shop_model.specs.trade.Sales.{Terms, new_order, sold_item, tables_bought}
use Rattle.shop_model.proofs.cited.Lists.{id_of_place}
use Rattle.shop_model.proofs.cited.Opened.{added_push}
use Rattle.shop_search.specs.Growing.{greatest}
use Rattle.shop_search.specs.Growing as growing
use Rattle.shop_search.proofs.cited.Founds.{found_more, last_within}
use Rattle.shop_history.specs.declared.acts.Act.{Act}
use Rattle.shop_history.specs.declared.acts.Act.TheVariants as act
use Rattle.shop_history.specs.declared.keys.Key.{Key}
use Rattle.shop_history.specs.declared.keys.Key.TheVariants as key
use Rattle.shop_history.specs.declared.keys.Row.{Row}
use Rattle.shop_history.specs.declared.keys.Row.TheVariants as row
use Rattle.shop_history.specs.Acts.{play}
use Rattle.shop_history.specs.Keys.{row_of, shown, label_of}
use Rattle.shop_history.specs.MayChange.{MayChange, add_changes}
use Rattle.shop_history.proofs.cited.KeptTables.{map_seen, play_keeps}
use Rattle.shop_history.proofs.cited.Places.{row_push_other, seen_set}
use Rattle.shop_history.proofs.cited.Versions.{RaisedFor, RaisedWhere}
use Rattle.shop_book.specs.declared.rows.Rows.{Rows}
use Rattle.shop_book.specs.declared.versions.Versions.{Versions}
use Rattle.shop_book.specs.Additions.{AddedItems, AreAdded, with_addition, number_of, last_number, found_number}
use Rattle.shop_book.specs.Columns.{at}
use Rattle.shop_book.specs.Stored.{stored, HasPlaces}
use Rattle.shop_book.proofs.CertainChanges.{gone, row_pushed}
use Rattle.shop_book.proofs.RankedSales as lists
use Rattle.shop_book.proofs.WatchingLemmas.{key_cases, raised_then}

-- the item that there is room for is no part of them

pub added_roomy : (t : Tables) (a wide : AddedItems) → wide ≡ record a { room = wide.room } → AreAdded t a → AreAdded t wide
added_roomy t a wide is are = subst (AreAdded t) (sym is) (record { opened_is = are.opened_is; contents_are = are.contents_are; size = are.size })

stored_room : (v : Versions) (room : Option Naming) (k : Key) → stored (record v { added = record v.added { room = room } }) k ≡ stored v k
stored_room v room (key.Label id) = refl
stored_room v room key.Count = refl
stored_room v room (key.Added search) = refl
stored_room v room _ = refl

pub stored_roomy : (v wide : Versions) → wide ≡ record v { added = wide.added } → wide.added ≡ record v.added { room = wide.added.room } → (k : Key) → stored wide k ≡ stored v k
stored_roomy v wide is room_is k =
    ap (λ (u : Versions). stored u k) (is ∙ ap (λ (a : AddedItems). record v { added = a }) room_is) ∙ stored_room v wide.added.room k

pub places_roomy : (v wide : Versions) (rows : Rows) → wide ≡ record v { added = wide.added } → HasPlaces v rows → HasPlaces wide rows
places_roomy v wide rows is places = subst (λ (u : Versions). HasPlaces u rows) (sym is) (record { long = places.long; each = places.each })

-- an act that adds nothing

abbrev pub AddsNone : Act → Type 0
AddsNone (act.Add asked) = ⊥
AddsNone _ = Unit {0}

entered_names : (t : Tables) (stamp draw : ℕ) (buyer : Buyer) → map naming (tables_entered t stamp draw buyer).items ≡ map naming t.items
entered_names t stamp draw (Returning asked) = refl
entered_names t stamp draw (Newcomer asked) = refl

bought_names : (t : Tables) (stamp draw : ℕ) (terms : Terms) (asked : PurchaseAsked) (customer : Option CustomerRow) → map naming (tables_bought t stamp draw terms asked customer).items ≡ map naming t.items
bought_names t stamp draw terms asked None = refl
bought_names t stamp draw terms asked (Some customer) = map_seen naming (sold_item (new_order t stamp draw terms asked customer)) t.items (λ i. refl)

mended_names : (t : Tables) (stamp : ℕ) (asked : AdminAsked) (item : Option ItemRow) → row_numbered t.items asked.item ≡ item → map naming (with_mended t stamp asked item).items ≡ map naming t.items
mended_names t stamp asked None there = refl
mended_names t stamp asked (Some item) there = seen_set naming t.items asked.item item (mended_item t stamp asked item) there refl

names_kept : (t : Tables) (stamp : ℕ) (a : Act) → AddsNone a → map naming (play t stamp a).tables.items ≡ map naming t.items
names_kept t stamp (act.Cart asked draw) none = refl
names_kept t stamp (act.Enter asked draw) none = entered_names t stamp draw asked.buyer
names_kept t stamp (act.Confirm asked draw auth tax) none = bought_names t stamp draw (record { auth = auth; tax = tax }) asked (row_numbered t.customers asked.c)
names_kept t stamp (act.Admin asked) none = mended_names t stamp asked (row_numbered t.items asked.item) refl
names_kept t stamp (act.Add asked) none = absurd none

pub added_kept : (t : Tables) (stamp : ℕ) (a : Act) → Sound t → AddsNone a → (kept : AddedItems) → AreAdded t kept → AreAdded (play t stamp a).tables kept
added_kept t stamp a sound none kept are =
    let u : Tables = (play t stamp a).tables in
    let keeps = play_keeps t stamp a sound.born_items in
    let names : map naming u.items ≡ map naming t.items = names_kept t stamp a none in
    let make : ℕ → List Naming → List Author → Catalogue = λ born items authors. record { items = drop born items; authors = authors } in
    record {
      opened_is = are.opened_is ∙ sym keeps.born_items;
      contents_are =
          are.contents_are
          ∙ ap (λ (born : ℕ). make born (map naming t.items) t.authors) (sym keeps.born_items)
          ∙ ap (λ (items : List Naming). make u.born_items items t.authors) (sym names)
          ∙ ap (make u.born_items (map naming u.items)) (sym keeps.authors);
      size = omega (arith, are.size, keeps.born_items, ap length names, length-map u.items naming, length-map t.items naming);
    }

-- the number at the end

at_push_here : (numbers : List ℕ) (number : ℕ) → at (numbers ++ number ∷ []) (length numbers + 1) ≡ number
at_push_here numbers number = ap (λ (o : Option ℕ). unwrap_or o 0) (row_pushed numbers number)

at_push_other : (numbers : List ℕ) (number id : ℕ) → (id ≡ length numbers + 1 → ⊥) → at (numbers ++ number ∷ []) id ≡ at numbers id
at_push_other numbers number id apart = ap (λ (o : Option ℕ). unwrap_or o 0) (row_push_other numbers id number apart)

-- the keys whose versions are the numbers of the entries that added items
abbrev pub IsOfAdded : Key → Type 0
IsOfAdded (key.Label id) = Unit {0}
IsOfAdded key.Count = Unit {0}
IsOfAdded (key.Added search) = Unit {0}
IsOfAdded _ = ⊥

-- an item is added

module _ (t : Tables) (sound : Sound t) (stamp : ℕ) (asked : AddAsked) (number : ℕ) where
  abbrev item : ItemRow
  item = added_item t stamp asked

  abbrev now : Tables
  now = with_item t item

  -- its id is above all others
  items_below : All (λ i. i.id < item.id) t.items
  items_below = λ k d within. omega (arith, id_of_place (λ (i : ItemRow). i.id) t.items k d sound.ids.items within, within)

  added_below : All (λ i. i.id < item.id) (added t).items
  added_below = All-drop (λ (i : Naming). i.id < item.id) t.born_items (map naming t.items) (All-map (λ (i : Naming). i.id < item.id) naming t.items items_below)

  item_now : row_of now (key.Item (length t.items + 1)) ≡ row.Item item
  item_now = ap (shown row.Item) (row_pushed t.items item)

  pub item_differs : row_of now (key.Item (length t.items + 1)) ≢ row_of t (key.Item (length t.items + 1))
  item_differs same =
      let not : row.Item item ≡ row.Absent = sym item_now ∙ same ∙ ap (shown row.Item) (gone t.items) in
      absurd cc

  label_differs : row_of now (key.Label (length t.items + 1)) ≢ row_of t (key.Label (length t.items + 1))
  label_differs same =
      let is : row_of now (key.Label (length t.items + 1)) ≡ row.Label (label_of now item) = ap (shown (λ i. row.Label (label_of now i))) (row_pushed t.items item) in
      let not : row.Label (label_of now item) ≡ row.Absent = sym is ∙ same ∙ ap (shown (λ i. row.Label (label_of t i))) (gone t.items) in
      absurd cc

  number_of_row : (one other : ℕ) → row.Number one ≡ row.Number other → one ≡ other
  number_of_row one other same = cc

  count_differs : row_of now key.Count ≢ row_of t key.Count
  count_differs same = absurd (omega (arith, number_of_row (length now.items) (length t.items) same, length-append t.items (item ∷ [])))

  module _ (a : AddedItems) (are : AreAdded t a) where
    abbrev pub taken : AddedItems
    taken = with_addition a (naming item) number

    pub taken_are : AreAdded now taken
    taken_are = record {
      opened_is = are.opened_is;
      contents_are =
          ap (λ (c : Catalogue). growing.with_item c (naming item)) are.contents_are
          ∙ ap (λ (items : List Naming). record { items = items; authors = t.authors }) (sym (added_push t item sound.born_items));
      size = omega (arith, are.size, sound.born_items, length-append a.numbers (number ∷ []), length-append t.items (item ∷ []));
    }

    -- a key shows what it showed and has the version that it had, or shows something else and has the number
    abbrev Outcome : Key → ℕ → ℕ → Type 0
    Outcome k was is = ((is ≡ was) × (row_of now k ≡ row_of t k)) ⊎ ((row_of now k ≢ row_of t k) × (is ≡ number))

    number_here : number_of taken (length t.items + 1) ≡ number
    number_here =
        let place : length t.items + 1 - a.opened ≡ length a.numbers + 1 = omega (arith, are.opened_is, are.size, sound.born_items) in
        ap (at taken.numbers) place ∙ at_push_here a.numbers number

    number_other : (id : ℕ) → id ≢ length t.items + 1 → number_of taken id ≡ number_of a id
    number_other id apart = at_push_other a.numbers number (id - a.opened) (λ same. apart (omega (arith, same, are.opened_is, are.size, sound.born_items)))

    label_outcome : (id : ℕ) → Outcome (key.Label id) (number_of a id) (number_of taken id)
    label_outcome id = ⊎_elim
        (λ (same : id ≡ length t.items + 1).
        subst (λ n. Outcome (key.Label n) (number_of a n) (number_of taken n)) (sym same) (inr (label_differs, number_here)))
        (λ (apart : id ≢ length t.items + 1).
        inl (number_other id apart, ap (shown (λ i. row.Label (label_of t i))) (row_push_other t.items id item apart)))
        (cases_eq id (length t.items + 1))

    count_outcome : Outcome key.Count (last_number a) (last_number taken)
    count_outcome =
        inr (count_differs, ap (at taken.numbers) (length-append a.numbers (number ∷ [])) ∙ at_push_here a.numbers number)

    abbrev ids_in : Catalogue → Search → List ℕ
    ids_in c search = found c search.kind search.text

    abbrev last_in : List ℕ → ℕ
    last_in ids = unwrap_or (greatest ids) 0

    a_row : (one other : List ℕ) → row.Items one ≡ row.Items other → one ≡ other
    a_row = lists.shown

    found_outcome : (search : Search) → Outcome (key.Added search) (found_number a search) (found_number taken search)
    found_outcome search = ⊎_elim
        (λ (same : ids_in taken.contents search ≡ ids_in a.contents search).
        let few : last_in (ids_in a.contents search) ≤ length t.items =
        last_within a.contents search.kind search.text (length t.items)
        (subst (λ (c : Catalogue). All (λ i. i.id ≤ length t.items) c.items) (sym are.contents_are)
        (All-weaker (λ (i : Naming). i.id < item.id) (λ (i : Naming). i.id ≤ length t.items) (λ i less. omega (arith, less)) (added t).items added_below)) in
        inl (
          ap (λ (ids : List ℕ). number_of taken (last_in ids)) same ∙ number_other (last_in (ids_in a.contents search)) (λ is. omega (arith, is, few)),
          ap row.Items (ap (λ (c : Catalogue). ids_in c search) (sym taken_are.contents_are) ∙ same ∙ ap (λ (c : Catalogue). ids_in c search) are.contents_are),
        ))
        (λ (new : (ids_in taken.contents search ≢ ids_in a.contents search) × (last_in (ids_in taken.contents search) ≡ item.id)).
        inr (
          (λ same. new.0
              (ap (λ (c : Catalogue). ids_in c search) taken_are.contents_are
              ∙ a_row (ids_in (added now) search) (ids_in (added t) search) same
              ∙ ap (λ (c : Catalogue). ids_in c search) (sym are.contents_are))),
          ap (number_of taken) new.1 ∙ number_here,
        ))
        (found_more a.contents (naming item) search.kind search.text
        (subst (λ (c : Catalogue). All (λ i. i.id < item.id) c.items) (sym are.contents_are) added_below))

  -- the versions of all keys

  module _ (v : Versions) (are : AreAdded t v.added) where
    abbrev pub moved : Versions
    moved = record v { added = taken v.added are }

    outcome : (k : Key) → IsOfAdded k → Outcome v.added are k (stored v k) (stored moved k)
    outcome (key.Label id) of = label_outcome v.added are id
    outcome key.Count of = count_outcome v.added are
    outcome (key.Added search) of = found_outcome v.added are search
    outcome _ of = absurd of

    taken_raised : RaisedWhere t now number IsOfAdded (stored v) (stored moved)
    taken_raised = record { each = each; all = all }
      where
        of : (k : Key) → IsOfAdded k → (stored moved k ≡ stored v k) ⊎ ((row_of now k ≢ row_of t k) × (stored moved k ≡ number))
        of k is = ⊎_elim (λ same. inl same.0) (λ new. inr new) (outcome k is)

        each : (k : Key) → (stored moved k ≡ stored v k) ⊎ ((row_of now k ≢ row_of t k) × (stored moved k ≡ number))
        each (key.Label id) = of (key.Label id) tt
        each key.Count = of key.Count tt
        each (key.Added search) = of (key.Added search) tt
        each _ = inl refl

        all : (k : Key) → IsOfAdded k → row_of now k ≢ row_of t k → stored moved k ≡ number
        all k is differs = ⊎_elim (λ same. absurd (differs same.1)) (λ new. new.1) (outcome k is)

    item_raised : (first : Key → ℕ) → stored v (key.Item (length t.items + 1)) ≡ number → ((k : Key) → k ≢ key.Item (length t.items + 1) → stored v k ≡ first k)
        → RaisedFor t now number (key.Item (length t.items + 1) ∷ []) first (stored v)
    item_raised first here others = record {
      each = λ k. ⊎_elim
          (λ (same : k ≡ key.Item (length t.items + 1)). inr (subst (λ (k : Key). row_of now k ≢ row_of t k) (sym same) item_differs, ap (stored v) same ∙ here))
          (λ (apart : k ≢ key.Item (length t.items + 1)). inl (others k apart))
          (key_cases k (key.Item (length t.items + 1)));
      all = λ k has differs. ap (stored v) (only (key.Item (length t.items + 1)) k has) ∙ here;
    }
      where
        only : (one k : Key) → Contains (one ∷ []) k → k ≡ one
        only one k (zero, within, is) = sym is
        only one k (suc place, within, is) = absurd (omega (arith, within))

    -- which keys may change
    may : (k : Key) → MayChange t (act.Add asked) k → (Contains (key.Item (length t.items + 1) ∷ []) k ⊎ IsOfAdded k) ⊎ Contains (key.NewIn asked.subject ∷ []) k
    may k change = by k (of k change)
      where
        by : (k : Key) → IsOfAdded k ⊎ Contains (add_changes t asked) k → (Contains (key.Item (length t.items + 1) ∷ []) k ⊎ IsOfAdded k) ⊎ Contains (key.NewIn asked.subject ∷ []) k
        by k (inl is) = inl (inr is)
        by k (inr (zero, within, is)) = inl (inl (0, omega arith, is))
        by k (inr (suc zero, within, is)) = inl (inr (subst IsOfAdded is tt))
        by k (inr (suc (suc zero), within, is)) = inl (inr (subst IsOfAdded is tt))
        by k (inr (suc (suc (suc zero)), within, is)) = inr (0, omega arith, is)
        by k (inr (suc (suc (suc (suc place))), within, is)) = absurd (omega (arith, within))

        of : (k : Key) → MayChange t (act.Add asked) k → IsOfAdded k ⊎ Contains (add_changes t asked) k
        of (key.Added search) change = inl tt
        of _ change = inr change

    -- those that an item which is added raises: its own, those of added items, and that of the newest items of its subject
    pub added_raised : (first end : Key → ℕ) → stored v (key.Item (length t.items + 1)) ≡ number → ((k : Key) → k ≢ key.Item (length t.items + 1) → stored v k ≡ first k)
        → RaisedFor t now number (key.NewIn asked.subject ∷ []) (stored moved) end → RaisedWhere t now number (MayChange t (act.Add asked)) first end
    added_raised first end here others listed =
        let all = raised_then t now number (λ k. Contains (key.Item (length t.items + 1) ∷ []) k ⊎ IsOfAdded k) (Contains (key.NewIn asked.subject ∷ [])) first (stored moved) end
        (raised_then t now number (Contains (key.Item (length t.items + 1) ∷ [])) IsOfAdded first (stored v) (stored moved) (item_raised first here others) taken_raised) listed in
        record { each = all.each; all = λ k change. all.all k (may k change) }
