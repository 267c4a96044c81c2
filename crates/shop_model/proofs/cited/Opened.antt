-- What a shop opened with stays in the first places of its items, and what is added comes behind it.
use Rattle.std.proofs.Common.{◌≡◌, ℕ, zero, suc, ◌-◌, ◌==◌, ◌≤◌, Bool, true, false, cond, List, [], ◌∷◌, ◌++◌, length, map, take, drop, Some, None, ap, ◌∙◌, arith, take-append-drop}
use Rattle.std.specs.List.{slice_get}
use Rattle.std.proofs.lemmas.List.{length-map, map-append, take-append-le, drop-append-le, take_all}
use Rattle.shop_model.specs.declared.tables.Tables.{Tables}
use Rattle.shop_model.specs.lists.Catalogues.{Naming, naming, catalogue, opened, added}
use Rattle.shop_model.specs.rows.Lookups.{row_numbered}
use Rattle.shop_model.specs.rows.Rows.{ItemRow}
use Rattle.shop_model.specs.trade.Adding.{with_item}

-- the rest of a catalogue that begins with so many items
named_within : (t : Tables) → t.born_items ≤ length t.items → t.born_items ≤ length (map naming t.items)
named_within t within = rw length-map within

-- one item more leaves it as it is
pub opened_push : (t : Tables) (item : ItemRow) → t.born_items ≤ length t.items → opened (with_item t item) ≡ opened t
opened_push t item within =
    ap (λ (items : List Naming). record { items = items; authors = t.authors })
    (ap (take t.born_items) (map-append naming t.items (item ∷ [])) ∙ take-append-le t.born_items (map naming t.items) (naming item ∷ []) (named_within t within))

-- and is one that was added
pub added_push : (t : Tables) (item : ItemRow) → t.born_items ≤ length t.items → (added (with_item t item)).items ≡ (added t).items ++ naming item ∷ []
added_push t item within =
    ap (drop t.born_items) (map-append naming t.items (item ∷ [])) ∙ drop-append-le t.born_items (map naming t.items) (naming item ∷ []) (named_within t within)

-- both are all
pub opened_added : (t : Tables) → (opened t).items ++ (added t).items ≡ (catalogue t).items
opened_added t = take-append-drop t.born_items (map naming t.items)

-- where nothing was added
pub opened_all : (t : Tables) → t.born_items ≡ length t.items → opened t ≡ catalogue t
opened_all t all =
    ap (λ (items : List Naming). record { items = items; authors = t.authors })
    (take_all t.born_items (map naming t.items) (rw length-map (omega (arith, all))))

-- what is found among the first is found among all

found_first : {A : Type 0} (n : ℕ) (xs : List A) (place : ℕ) (x : A) → slice_get (take n xs) place ≡ Some x → slice_get xs place ≡ Some x
found_first zero xs place x at = absurd cc
found_first (suc n) [] place x at = absurd cc
found_first (suc n) (y ∷ ys) zero x at = at
found_first (suc n) (y ∷ ys) (suc place) x at = found_first n ys place x at

numbered_by : {A : Type 0} (b : Bool) (n : ℕ) (xs : List A) (place : ℕ) (x : A) → cond b None (slice_get (take n xs) place) ≡ Some x → cond b None (slice_get xs place) ≡ Some x
numbered_by true n xs place x at = absurd cc
numbered_by false n xs place x at = found_first n xs place x at

pub opened_named : (t : Tables) (id : ℕ) (item : Naming) → row_numbered (opened t).items id ≡ Some item → row_numbered (catalogue t).items id ≡ Some item
opened_named t id item at = numbered_by (id == 0) t.born_items (map naming t.items) (id - 1) item at
