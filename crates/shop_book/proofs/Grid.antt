-- One number of one column is set.
use Rattle.std.proofs.Common.{◌≡◌, ◌≢◌, ℕ, zero, suc, ◌+◌, ◌++◌, ◌-◌, ◌<◌, List, [], ◌∷◌, length, get_or, set, Option, Some, None, unwrap_or, slice_get, slice_set, refl, sym, ◌∙◌, ap, subst, arith, ⊎_elim}
use Rattle.std.proofs.lemmas.Bool.{cases_eq, cond-false, ne_eqb}
use Rattle.std.proofs.lemmas.List.{get_or-set_same, get_or-set_other}
use Rattle.shop_model.specs.declared.subject.Subject.{Subject}
use Rattle.shop_model.specs.declared.subject.Subject.TheVariants as subjects_of
use Rattle.shop_model.specs.rows.Sound.{Has}
use Rattle.shop_model.specs.rows.Subjects.{subjects}
use Rattle.shop_history.proofs.cited.Places.{row_set_apart}
use Rattle.shop_history.specs.declared.keys.Key.{Key}
use Rattle.shop_history.specs.declared.keys.Key.TheVariants as key
use Rattle.shop_book.specs.Additions.{AddedItems, number_of, last_number, found_number}
use Rattle.shop_book.specs.Columns.{at}
use Rattle.shop_book.specs.Places.{place_of, subject_id}
use Rattle.shop_book.specs.Said.{alike}
use Rattle.shop_book.specs.Stored.{stored, stored_in, stored_apart}
use Rattle.shop_book.specs.declared.versions.Versions.{Versions}
use Rattle.shop_model.specs.declared.address.AddressText.{AddressText}
use Rattle.std.specs.Prelude.{bytes_eq}
use Rattle.std.specs.HashMap.{get}
use Rattle.std.proofs.lemmas.Option.{get_or_from_slice_get}
use Rattle.shop_book.proofs.SubjectIds.{there}

pub set_here : {A : Type 0} (xs : List A) (i : ℕ) (x : A) → i < length xs → slice_get (slice_set xs i x) i ≡ Some x
set_here [] i x within = absurd (omega arith)
set_here (y ∷ xs) zero x within = refl
set_here (y ∷ xs) (suc i) x within = set_here xs i x (omega arith)

at_set_here : (numbers : List ℕ) (id number : ℕ) → Has (length numbers) id → at (slice_set numbers (id - 1) number) id ≡ number
at_set_here numbers id number has =
    ap (λ o. unwrap_or o 0) (cond-false _ _ _ (ne_eqb id 0 (λ e. omega (arith, e, has.first))) ∙ set_here numbers (id - 1) number (omega (arith, has.first, has.last)))

at_set_other : (numbers : List ℕ) (id other number : ℕ) → Has (length numbers) id → (other ≡ id → ⊥) → at (slice_set numbers (id - 1) number) other ≡ at numbers other
at_set_other numbers id other number has apart = ap (λ o. unwrap_or o 0) (row_set_apart numbers id other number (omega (arith, has.first)) apart)

-- the number at a place of some columns
abbrev pub at_place : List (List ℕ) → ℕ × ℕ → ℕ
at_place columns place = at (get_or columns place.0 []) place.1

-- the columns with one number set
abbrev pub set_place : List (List ℕ) → ℕ × ℕ → ℕ → List (List ℕ)
set_place columns place number =
    set columns place.0 (slice_set (get_or columns place.0 []) (place.1 - 1) number)

pub within : (columns : List (List ℕ)) (c id : ℕ) → Has (length (get_or columns c [])) id → c < length columns
within [] c id has = absurd (omega (arith, has.first, has.last))
within (column ∷ columns) zero id has = omega arith
within (column ∷ columns) (suc c) id has = omega (arith, within columns c id has)

pub place_here : (columns : List (List ℕ)) (place : ℕ × ℕ) (number : ℕ) → Has (length (get_or columns place.0 [])) place.1 → at_place (set_place columns place number) place ≡ number
place_here columns place number has =
    ap (λ (ns : List ℕ). at ns place.1) (get_or-set_same columns place.0 _ [] (within columns place.0 place.1 has))
    ∙ at_set_here (get_or columns place.0 []) place.1 number has

pub place_other : (columns : List (List ℕ)) (place other : ℕ × ℕ) (number : ℕ) → Has (length (get_or columns place.0 [])) place.1 → other ≢ place → at_place (set_place columns place number) other ≡ at_place columns other
place_other columns place other number has apart =
    ⊎_elim
    (λ (same : other.0 ≡ place.0).
    let ids : other.1 ≢ place.1 = λ id. apart (let pair : ℕ → ℕ → ℕ × ℕ = λ a b. (a, b) in ap (λ a. pair a other.1) same ∙ ap (pair place.0) id) in
    ap (λ n. at_place (set_place columns place number) (n, other.1)) same
    ∙ ap (λ (ns : List ℕ). at ns other.1) (get_or-set_same columns place.0 _ [] (within columns place.0 place.1 has))
    ∙ at_set_other (get_or columns place.0 []) place.1 other.1 number has ids
    ∙ ap (λ n. at_place columns (n, other.1)) (sym same))
    (λ (apart : other.0 ≢ place.0). ap (λ (ns : List ℕ). at ns other.1) (get_or-set_other columns place.0 other.0 _ [] apart))
    (cases_eq other.0 place.0)

-- keys with one place are one

subject_of_id : ℕ → Subject
subject_of_id id = get_or subjects (id - 1) subjects_of.Arts

-- the key at a place
key_at : ℕ × ℕ → Key
key_at place = get_or
    (key.Item place.1 ∷ key.LastOrder place.1 ∷ key.Customer place.1 ∷ key.Cart place.1 ∷ key.NewIn (subject_of_id place.1) ∷ key.BestIn (subject_of_id place.1)
    ∷ key.Buyers place.1 ∷ key.Bought place.1 ∷ key.Address place.1 ∷ key.Country place.1 ∷ key.Order place.1 ∷ [])
    place.0 (key.Item 0)

IsBack : Key → Option (ℕ × ℕ) → Type 0
IsBack k None = Unit {0}
IsBack k (Some place) = key_at place ≡ k

subject_back : (s : Subject) → subject_of_id (subject_id s) ≡ s
unfolding subject_of_id
subject_back s = get_or_from_slice_get subjects (subject_id s - 1) s subjects_of.Arts (there s)

back : (k : Key) → IsBack k (place_of k)
unfolding key_at IsBack
back (key.NewIn subject) = ap key.NewIn (subject_back subject)
back (key.BestIn subject) = ap key.BestIn (subject_back subject)
back (key.Name user) = tt
back (key.SameAddress text) = tt
back (key.Label id) = tt
back key.Count = tt
back (key.Added search) = tt
back _ = refl

pub places_apart : (one other : Key) (place there : ℕ × ℕ) → place_of one ≡ Some place → place_of other ≡ Some there → other ≢ one → there ≢ place
unfolding IsBack
places_apart one other place there one_is other_is apart same =
    let one_back : key_at place ≡ one = subst (IsBack one) one_is (back one) in
    let other_back : key_at there ≡ other = subst (IsBack other) other_is (back other) in
    apart (sym other_back ∙ ap key_at same ∙ one_back)

-- versions that agree

pub apart_same : (old new : Versions) (k : Key) → new.added ≡ old.added → ((user : List ℕ) → k ≡ key.Name user → get bytes_eq new.names user ≡ get bytes_eq old.names user)
    → ((text : AddressText) → k ≡ key.SameAddress text → get alike new.said text ≡ get alike old.said text) → stored_apart new k ≡ stored_apart old k
apart_same old new (key.Name user) added names said = ap (λ o. unwrap_or o 0) (names user refl)
apart_same old new (key.SameAddress text) added names said = ap (λ o. unwrap_or o 0) (said text refl)
apart_same old new (key.Label id) added names said = ap (λ (a : AddedItems). number_of a id) added
apart_same old new key.Count added names said = ap last_number added
apart_same old new (key.Added search) added names said = ap (λ (a : AddedItems). found_number a search) added
apart_same old new _ added names said = refl

pub stored_same : (old new : Versions) (k : Key) → ((place : ℕ × ℕ) → place_of k ≡ Some place → at_place new.columns.items place ≡ at_place old.columns.items place) → stored_apart new k ≡ stored_apart old k
    → stored new k ≡ stored old k
stored_same old new k places texts = by (place_of k) refl
  where
    by : (o : Option (ℕ × ℕ)) → place_of k ≡ o → stored_in new k o ≡ stored_in old k o
    by None is = texts
    by (Some place) is = places place is

-- one column more
pub push_each : (P : ℕ → List ℕ → Type 0) (columns : List (List ℕ)) (column : List ℕ) → ((c : ℕ) → c < length columns → P c (get_or columns c [])) → P (length columns) column
    → (c : ℕ) → c < length columns + 1 → P c (get_or (columns ++ column ∷ []) c [])
push_each P [] column each here zero lt = here
push_each P [] column each here (suc c) lt = absurd (omega (arith, lt))
push_each P (x ∷ xs) column each here zero lt = each zero (omega arith)
push_each P (x ∷ xs) column each here (suc c) lt = push_each (λ n. P (suc n)) xs column (λ n within. each (suc n) (omega (arith, within))) here c (omega (arith, lt))

pub push_none : (columns : List (List ℕ)) (column : List ℕ) → ((c id : ℕ) → at (get_or columns c []) id ≡ 0) → ((id : ℕ) → at column id ≡ 0)
    → (c id : ℕ) → at (get_or (columns ++ column ∷ []) c []) id ≡ 0
push_none [] column none here zero id = here id
push_none [] column none here (suc c) id = none zero id
push_none (x ∷ xs) column none here zero id = none zero id
push_none (x ∷ xs) column none here (suc c) id = push_none xs column (λ n. none (suc n)) here c id
