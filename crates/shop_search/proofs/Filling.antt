-- The lists of ids, as they are filled key by key and item by item.
use Rattle.std.proofs.Common.{◌≡◌, ℕ, ◌+◌, ◌<◌, Bool, true, false, ◌||◌, nat_lt, List, [], ◌∷◌, ◌++◌, length, map, filter, take, get_or, cond, refl, sym, ap, ◌∙◌, arith, bytes_eq, HashMap, inl, inr, append-nil, lt-ltb, le-ltb, le_refl, length-append, length-take-le}
use Rattle.std.proofs.lemmas.Bool.{cases_lt}
use Rattle.std.proofs.lemmas.List.{take_more, take_all, take-append-le, take-map, map-append}
use Rattle.std.proofs.lemmas.List.Elements.{filter_more}
use Rattle.std.proofs.lemmas.List.Folds.{list_any-append}
use Rattle.std.proofs.lemmas.Slice.Eq.{bytes_eq-Decides}
use Rattle.shop_model.specs.declared.author.Author.{Author}
use Rattle.shop_model.specs.declared.requests.SearchKind.{SearchKind}
use Rattle.shop_model.specs.lists.Catalogues.{Catalogue, Naming, matches, by_title, compared, found}
use Rattle.shop_model.specs.rows.Limits.{list_limit}
use Rattle.shop_search.specs.Keys.{keys_of, is_among}
use Rattle.shop_search.specs.Lists.{ids_at, with_id, Adds, AddsAll, Lists, Answers}
use Rattle.shop_search.specs.Order.{by_title_total, IsListed}
use Rattle.shop_search.proofs.Matching.{matches_key}
use Rattle.shop_search.proofs.Sorting.{passed_in_order}

among_more : (q : List ℕ) (keys : List (List ℕ)) (i : ℕ) (key : List ℕ) → i < length keys → key ≡ get_or keys i key
    → is_among q (take (i + 1) keys) ≡ (is_among q (take i keys) || (bytes_eq key q || false))
among_more q keys i key within here =
    rw (take_more keys i key within, ← here) (list_any-append (λ k. bytes_eq k q) (take i keys) (key ∷ []))

-- what is at a key, where one that was not among the keys before is added
pub fresh : {A : Type 0} (a b : Bool) (f : A → A) (now was first : A) → (b ≡ true → a ≡ false)
    → now ≡ cond b (f was) was → was ≡ cond a (f first) first → now ≡ cond (a || (b || false)) (f first) first
fresh true true f now was first new is before = let never = new refl in cc
fresh true false f now was first new is before = is ∙ before
fresh false true f now was first new is before = is ∙ ap f before
fresh false false f now was first new is before = is ∙ before

-- what is at a key, where one that was among the keys before is passed over
pub stale : {A : Type 0} (a b : Bool) (more first now : A) → (b ≡ true → a ≡ true)
    → now ≡ cond a more first → now ≡ cond (a || (b || false)) more first
stale true b more first now old before = before
stale false true more first now old before = let never = old refl in cc
stale false false more first now old before = before

pub same_among : (key q : List ℕ) (keys : List (List ℕ)) (b : Bool) → is_among key keys ≡ b → bytes_eq key q ≡ true → is_among q keys ≡ b
same_among key q keys b is same = rw (← (bytes_eq-Decides key q).0 same) is

-- one key more, which is new
pub key_added : {S : Type 0} {first was now : HashMap (List ℕ) (List ℕ) S} (keys : List (List ℕ)) (i : ℕ) (key : List ℕ) (id : ℕ)
    → i < length keys → key ≡ get_or keys i key → is_among key (take i keys) ≡ false
    → AddsAll first was (take i keys) id → Adds was now key id → AddsAll first now (take (i + 1) keys) id
key_added {first = first} {was = was} {now = now} keys i key id within here new before adds = record {
  each = λ q. rw (among_more q keys i key within here)
      (fresh (is_among q (take i keys)) (bytes_eq key q) (λ ids. with_id ids id) (ids_at now q) (ids_at was q) (ids_at first q)
      (λ same. same_among key q (take i keys) false new same) (adds.each q) (before.each q));
}

-- one key more, which came before
pub key_passed : {S : Type 0} {first was : HashMap (List ℕ) (List ℕ) S} (keys : List (List ℕ)) (i : ℕ) (key : List ℕ) (id : ℕ)
    → i < length keys → key ≡ get_or keys i key → is_among key (take i keys) ≡ true
    → AddsAll first was (take i keys) id → AddsAll first was (take (i + 1) keys) id
key_passed {first = first} {was = was} keys i key id within here old before = record {
  each = λ q. rw (among_more q keys i key within here)
      (stale (is_among q (take i keys)) (bytes_eq key q) (with_id (ids_at first q) id) (ids_at first q) (ids_at was q)
      (λ same. same_among key q (take i keys) true old same) (before.each q));
}

-- the first elements of one more
take_push : (n : ℕ) (xs : List ℕ) (x : ℕ) → take n (xs ++ x ∷ []) ≡ cond (nat_lt (length (take n xs)) n) (take n xs ++ x ∷ []) (take n xs)
take_push n xs x =
    elim (cases_lt (length xs) n) [
      | inl less ↦
          let all : take n xs ≡ xs = take_all n xs (omega arith) in
          rw (all, lt-ltb (length xs) n less) (take_all n (xs ++ x ∷ []) (rw length-append (omega arith)))
      | inr more ↦
          rw (take-append-le n xs (x ∷ []) more, length-take-le n xs more, le-ltb n n (le_refl n)) refl
    ]

listed_more : (b : Bool) (items : List Naming) (item : Naming) (was now : List ℕ)
    → was ≡ take list_limit (map (λ i. i.id) items) → now ≡ cond b (with_id was item.id) was
    → now ≡ take list_limit (map (λ i. i.id) (items ++ cond b (item ∷ []) []))
listed_more true items item was now before is =
    rw (map-append (λ (i : Naming). i.id) items (item ∷ []), take_push list_limit (map (λ i. i.id) items) item.id, ← before) is
listed_more false items item was now before is = rw (append-nil items) (is ∙ before)

-- one item more
pub item_listed : {S : Type 0} {was now : HashMap (List ℕ) (List ℕ) S} (authors : List Author) (kind : SearchKind) (listed : List Naming) (i : ℕ) (item : Naming)
    → i < length listed → item ≡ get_or listed i item
    → Lists authors kind (take i listed) was → AddsAll was now (keys_of authors kind item) item.id
    → Lists authors kind (take (i + 1) listed) now
item_listed {was = was} {now = now} authors kind listed i item within here before adds = record {
  each = λ q. rw (filter_more (λ i. is_among q (keys_of authors kind i)) listed i item within, ← here)
      (listed_more (is_among q (keys_of authors kind item)) (filter (λ i. is_among q (keys_of authors kind i)) (take i listed)) item
      (ids_at was q) (ids_at now q) (before.each q) (adds.each q));
}

pub filter_same : (p q : Naming → Bool) → ((i : Naming) → q i ≡ p i) → (items : List Naming) → filter p items ≡ filter q items
filter_same p q same [] = refl
filter_same p q same (i ∷ items) = rw (same i, filter_same p q same items) refl

-- the lists of all items in the order of lists answer the searches
pub answers_are : {S : Type 0} {lists : HashMap (List ℕ) (List ℕ) S} (c : Catalogue) (kind : SearchKind) (listed : List Naming)
    → IsListed c.items listed → Lists c.authors kind listed lists → Answers c kind lists
unfolding found
answers_are {lists = lists} c kind listed is made = record {
  each = λ text.
      let key = compared kind text in
      made.each key
      ∙ take-map (λ (i : Naming). i.id) list_limit (filter (λ i. is_among key (keys_of c.authors kind i)) listed)
      ∙ ap (λ (items : List Naming). map (λ i. i.id) (take list_limit items))
      (filter_same (λ i. is_among key (keys_of c.authors kind i)) (matches c kind text) (matches_key c kind text) listed
      ∙ passed_in_order by_title by_title_total (matches c kind text) c.items listed is.sorted is.stable);
}

-- an answer to a text in the form in which it is compared
pub answered : {S : Type 0} {lists : HashMap (List ℕ) (List ℕ) S} (c : Catalogue) (kind : SearchKind) (text ids : List ℕ)
    → Answers c kind lists → compared kind text ≡ text → ids ≡ ids_at lists text → ids ≡ found c kind text
answered {lists = lists} c kind text ids answers form is = is ∙ ap (ids_at lists) (sym form) ∙ answers.each text
