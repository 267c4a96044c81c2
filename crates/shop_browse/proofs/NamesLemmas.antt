-- Labels that were read, and the keys of those that are to be read, one by one.
use Rattle.std.proofs.Common.{◌≡◌, ◌≢◌, ◌≤◌, ℕ, Bool, true, false, not, cond, IsTrue, List, [], ◌∷◌, ◌++◌, length, map, filter, Option, Some, None, is_some, MatchOption, refl, arith}
use Rattle.std.proofs.lemmas.List.Elements.{All-head, All-tail}
use Rattle.shop_model.specs.declared.item.ItemDetails.{ItemDetails}
use Rattle.shop_model.specs.lists.Catalogues.{Catalogue, Naming}
use Rattle.shop_model.specs.rows.Lookups.{row_numbered}
use Rattle.shop_model.specs.rows.Sound.{Has}
use Rattle.shop_search.specs.Namings.{IsNamedBy}
use Rattle.shop_history.proofs.cited.Places.{has_row, some_row}
use Rattle.shop_history.specs.declared.keys.Key.TheVariants as key
use Rattle.shop_browse.specs.Names.{NoneUnread, label_keys}

-- the keys of an item and of others
pub label_keys_more : (c : Catalogue) (item : ℕ) (items : List ℕ) → label_keys c (item ∷ items) ≡ label_keys c (item ∷ []) ++ label_keys c items
label_keys_more c item items = by (not (is_some (row_numbered c.items item)))
  where
    others : List ℕ
    others = filter (λ id. not (is_some (row_numbered c.items id))) items

    by : (unknown : Bool) → map key.Label (cond unknown (item ∷ others) others) ≡ map key.Label (cond unknown (item ∷ []) []) ++ map key.Label others
    by true = refl
    by false = refl

-- where a catalogue has the last of so many items it has them all
pub none_added : (c : Catalogue) (count : ℕ) → (row_numbered c.items count ≢ None) → (ids : List ℕ) → NoneUnread c count ids
none_added c count last [] there = refl
none_added c count last (id ∷ ids) there = by (row_numbered c.items id) (has id (All-head (Has count) id ids there)) (none_added c count last ids (All-tail (Has count) id ids there))
  where
    within : (o : Option Naming) → row_numbered c.items count ≡ o → o ≢ None → count ≤ length c.items
    within None at some = absurd (some refl)
    within (Some item) at some = (has_row c.items count item at).last

    has : (id : ℕ) → Has count id → row_numbered c.items id ≢ None
    has id here none =
        let most = within (row_numbered c.items count) refl last in
        let item = some_row c.items id (record { first = here.first; last = omega (arith, here.last, most) }) in
        absurd (cc (item.1, none))

    by : (o : Option Naming) → o ≢ None → label_keys c ids ≡ [] → map key.Label (cond (not (is_some o)) (id ∷ filter (λ id. not (is_some (row_numbered c.items id))) ids) (filter (λ id. not (is_some (row_numbered c.items id))) ids)) ≡ []
    by None some others = absurd (some refl)
    by (Some item) some others = others

-- an item whose details an index has
pub details_there : {D : Type 0} (details : Option D) (found : Option Naming) (value : D → ItemDetails) → MatchOption details (found ≡ None) (λ d. IsNamedBy found (value d)) → IsTrue (is_some details) → found ≢ None
details_there None found value named some = absurd (cc some)
details_there (Some d) found value named some = λ none. absurd (cc (named.there, none))
