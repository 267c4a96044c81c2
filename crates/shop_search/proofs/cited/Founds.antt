-- What searches find, of a text in another form, in two parts of the items, and of one item more.
use Rattle.std.proofs.Common.{◌≡◌, ◌≢◌, List, [], ◌∷◌, ℕ, zero, suc, ◌<◌, ◌≤◌, ◌++◌, Bool, true, false, cond, map, filter, take, unwrap_or, Contains, ◌⊎◌, inl, inr, ⊎_elim, refl, sym, ap, subst, ◌∙◌, le_refl, arith}
use Rattle.std.specs.Prelude.{All}
use Rattle.std.specs.Ordering.{is_gt}
use Rattle.std.specs.declared.cmp.Ordering.{Ordering}
use Rattle.std.proofs.lemmas.List.{map-append, take-take}
use Rattle.std.proofs.lemmas.List.Elements.{filter-append, All-nil, All-cons, All-head, All-tail, All-take, All-map, All-filter, All-weaker, All-contains, All-push}
use Rattle.shop_model.specs.declared.author.Author.{Author}
use Rattle.shop_model.specs.declared.requests.SearchKind.{SearchKind}
use Rattle.shop_model.specs.declared.requests.SearchKind.TheVariants as kind
use Rattle.shop_model.specs.lists.Catalogues.{Catalogue, Naming, by_title, compared, found, matches}
use Rattle.shop_model.specs.lists.Rankings.{in_order, put_among}
use Rattle.shop_model.specs.rows.Limits.{list_limit}
use Rattle.shop_model.proofs.cited.Searches.{compared_twice}
use Rattle.shop_ranking.proofs.cited.Firsts.{first_merged}
use Rattle.shop_search.specs.Growing.{with_item, with_held, greatest}
use Rattle.shop_search.specs.Keys.{keys_of, is_among}
use Rattle.shop_search.specs.Titles.{TitledItem, titled, by_titled, firsts, firsts_found}
use Rattle.shop_search.proofs.Filling.{filter_same}
use Rattle.shop_search.proofs.Matching.{matches_key}
use Rattle.shop_search.proofs.TitledLemmas.{by_titled_strict, firsts_are_found, firsts_more}

-- the form in which a text is compared makes no difference
pub found_as_compared : (c : Catalogue) (kind : SearchKind) (text : List ℕ) → found c kind (compared kind text) ≡ found c kind text
unfolding found
found_as_compared c kind text =
    ap (λ items. map (λ i. i.id) (take list_limit (in_order by_title items)))
    (filter_same (matches c kind (compared kind text)) (matches c kind text)
    (λ i. matches_key c kind text i
    ∙ ap (λ key. is_among key (keys_of c.authors kind i)) (sym (compared_twice kind text))
    ∙ sym (matches_key c kind (compared kind text) i)) c.items)

abbrev pub over : List Author → List Naming → Catalogue
over authors items = record { items = items; authors = authors }

-- matching looks at authors alone
matches_same : (authors : List Author) (items others : List Naming) (kind : SearchKind) (text : List ℕ) (item : Naming)
    → matches (over authors others) kind text item ≡ matches (over authors items) kind text item
matches_same authors items others kind.Title text item = refl
matches_same authors items others kind.Author text item = refl
matches_same authors items others kind.Subject text item = refl

part_found : (authors : List Author) (items others : List Naming) (kind : SearchKind) (text : List ℕ)
    → firsts_found (over authors items) kind text ≡ firsts (map titled (filter (matches (over authors others) kind text) items))
part_found authors items others kind text =
    ap (λ is. firsts (map titled is))
    (filter_same (matches (over authors items) kind text) (matches (over authors others) kind text) (matches_same authors items others kind text) items)

-- what is found in two parts of the items, merged
pub found_merged : (authors : List Author) (items more : List Naming) (kind : SearchKind) (text : List ℕ)
    → map (λ i. i.id) (firsts (firsts_found (over authors items) kind text ++ firsts_found (over authors more) kind text))
    ≡ found (over authors (items ++ more)) kind text
found_merged authors items more kind text =
    let passes = matches (over authors (items ++ more)) kind text in
    ap (map (λ (i : TitledItem). i.id))
    (ap (λ is. firsts (is ++ firsts_found (over authors more) kind text)) (part_found authors items (items ++ more) kind text)
    ∙ ap (λ is. firsts (firsts (map titled (filter passes items)) ++ is)) (part_found authors more (items ++ more) kind text)
    ∙ first_merged by_titled by_titled_strict list_limit (map titled (filter passes items)) (map titled (filter passes more))
    ∙ ap firsts (sym (ap (map titled) (filter-append passes items more) ∙ map-append titled (filter passes items) (filter passes more))))
    ∙ firsts_are_found (over authors (items ++ more)) kind text

-- what is true of each item is true of those that are found

all_put : {A : Type 0} (P : A → Type 0) (order : A → A → Ordering) (x : A) (xs : List A) → P x → All P xs → All P (put_among order x xs)
unfolding put_among
all_put P order x [] here all = All-cons P x [] here (All-nil P)
all_put P order x (y ∷ ys) here all = by (is_gt (order x y)) (all_put P order x ys here (All-tail P y ys all))
  where
    by : (b : Bool) → All P (put_among order x ys) → All P (cond b (y ∷ put_among order x ys) (x ∷ y ∷ ys))
    by true rest = All-cons P y (put_among order x ys) (All-head P y ys all) rest
    by false rest = All-cons P x (y ∷ ys) here all

all_ordered : {A : Type 0} (P : A → Type 0) (order : A → A → Ordering) (xs : List A) → All P xs → All P (in_order order xs)
unfolding in_order
all_ordered P order [] all = All-nil P
all_ordered P order (x ∷ xs) all = all_put P order x (in_order order xs) (All-head P x xs all) (all_ordered P order xs (All-tail P x xs all))

all_found : (P : ℕ → Type 0) (c : Catalogue) (kind : SearchKind) (text : List ℕ) → All (λ i. P i.id) c.items → All P (found c kind text)
unfolding found
all_found P c kind text all =
    let those = filter (matches c kind text) c.items in
    All-map P (λ (i : Naming). i.id) (take list_limit (in_order by_title those))
    (All-take (λ (i : Naming). P i.id) list_limit (in_order by_title those)
    (all_ordered (λ (i : Naming). P i.id) by_title those (All-filter (matches c kind text) (λ (i : Naming). P i.id) c.items all)))

-- the greatest of ids

greatest_within : (ids : List ℕ) (most : ℕ) → All (λ id. id ≤ most) ids → unwrap_or (greatest ids) 0 ≤ most
greatest_within [] most all = omega arith
greatest_within (id ∷ ids) most all =
    omega (arith, All-head (λ n. n ≤ most) id ids all, greatest_within ids most (All-tail (λ n. n ≤ most) id ids all))

all_within : (ids : List ℕ) → All (λ id. id ≤ unwrap_or (greatest ids) 0) ids
all_within [] = All-nil (λ id. id ≤ unwrap_or (greatest []) 0)
all_within (id ∷ ids) =
    All-cons (λ n. n ≤ unwrap_or (greatest (id ∷ ids)) 0) id ids (omega arith)
    (All-weaker (λ n. n ≤ unwrap_or (greatest ids) 0) (λ n. n ≤ unwrap_or (greatest (id ∷ ids)) 0) (λ n few. omega (arith, few)) ids (all_within ids))

-- where no item has a greater id, none that is found has
pub last_within : (c : Catalogue) (kind : SearchKind) (text : List ℕ) (most : ℕ) → All (λ i. i.id ≤ most) c.items → unwrap_or (greatest (found c kind text)) 0 ≤ most
last_within c kind text most all = greatest_within (found c kind text) most (all_found (λ id. id ≤ most) c kind text all)

-- an element that is put among others is one of the first, or these stay

contains_next : {A : Type 0} (y x : A) (xs : List A) → Contains xs x → Contains (y ∷ xs) x
contains_next y x xs has = (suc has.0, omega (arith, has.1), has.2)

put_or_not : {A : Type 0} (order : A → A → Ordering) (n : ℕ) (x : A) (xs : List A) → (take n (put_among order x xs) ≡ take n xs) ⊎ Contains (take n (put_among order x xs)) x
unfolding put_among
put_or_not order zero x xs = inl refl
put_or_not order (suc n) x [] = inr (0, omega arith, refl)
put_or_not {A} order (suc n) x (y ∷ ys) = by (is_gt (order x y)) (put_or_not order n x ys)
  where
    by : (b : Bool) → (take n (put_among order x ys) ≡ take n ys) ⊎ Contains (take n (put_among order x ys)) x
        → (take (suc n) (cond b (y ∷ put_among order x ys) (x ∷ y ∷ ys)) ≡ take (suc n) (y ∷ ys)) ⊎ Contains (take (suc n) (cond b (y ∷ put_among order x ys) (x ∷ y ∷ ys))) x
    by true rest = ⊎_elim
        (λ (same : take n (put_among order x ys) ≡ take n ys). inl (ap (λ (zs : List A). y ∷ zs) same))
        (λ (has : Contains (take n (put_among order x ys)) x). inr (contains_next y x (take n (put_among order x ys)) has))
        rest
    by false rest = inr (0, omega arith, refl)

contains_id : (items : List TitledItem) (item : TitledItem) → Contains items item → Contains (map (λ i. i.id) items) item.id
contains_id [] item has = absurd (omega (arith, has.1))
contains_id (first ∷ items) item (zero, within, is) = (0, omega arith, ap (λ (i : TitledItem). i.id) is)
contains_id (first ∷ items) item (suc k, within, is) = contains_next first.id item.id (map (λ i. i.id) items) (contains_id items item (k, omega (arith, within), is))

-- with one item more, whose id is greater than all others: a search finds what it found, or others, of which it is the last
module _ (c : Catalogue) (item : Naming) (kind : SearchKind) (text : List ℕ) (last : All (λ i. i.id < item.id) c.items) where
  abbrev now : Catalogue
  now = with_item c item

  firsts_now : cond (matches c kind text item) (with_held (titled item) (firsts_found c kind text)) (firsts_found c kind text) ≡ firsts_found now kind text
  firsts_now =
      firsts_more (matches c kind text) c.items item
      ∙ ap (λ is. firsts (map titled is)) (filter_same (matches c kind text) (matches now kind text) (matches_same c.authors c.items now.items kind text) now.items)

  found_stays : firsts_found now kind text ≡ firsts_found c kind text → found now kind text ≡ found c kind text
  found_stays same = sym (firsts_are_found now kind text) ∙ ap (map (λ (i : TitledItem). i.id)) same ∙ firsts_are_found c kind text

  found_has : Contains (firsts_found now kind text) (titled item) → Contains (found now kind text) item.id
  found_has has = subst (λ ids. Contains ids item.id) (firsts_are_found now kind text) (contains_id (firsts_found now kind text) (titled item) has)

  not_found : Contains (found c kind text) item.id → ⊥
  not_found has = omega (arith, All-contains (λ id. id < item.id) (found c kind text) item.id (all_found (λ id. id < item.id) c kind text last) has)

  is_last : Contains (found now kind text) item.id → unwrap_or (greatest (found now kind text)) 0 ≡ item.id
  is_last has =
      let all : All (λ i. i.id ≤ item.id) now.items =
      All-push (λ (i : Naming). i.id ≤ item.id) c.items item (All-weaker (λ (i : Naming). i.id < item.id) (λ (i : Naming). i.id ≤ item.id) (λ i less. omega (arith, less)) c.items last) (omega arith) in
      let least = All-contains (λ id. id ≤ unwrap_or (greatest (found now kind text)) 0) (found now kind text) item.id (all_within (found now kind text)) has in
      omega (arith, least, last_within now kind text item.id all)

  abbrev Finds : Type 0
  Finds = (found now kind text ≡ found c kind text) ⊎ ((found now kind text ≢ found c kind text) × (unwrap_or (greatest (found now kind text)) 0 ≡ item.id))

  pub found_more : Finds
  found_more = by (matches c kind text item) firsts_now
    where
      held_again : take list_limit (firsts_found c kind text) ≡ firsts_found c kind text
      held_again = take-take list_limit list_limit (in_order by_titled (map titled (filter (matches c kind text) c.items))) (le_refl list_limit)

      by : (b : Bool) → cond b (with_held (titled item) (firsts_found c kind text)) (firsts_found c kind text) ≡ firsts_found now kind text → Finds
      by false is = inl (found_stays (sym is))
      by true is = ⊎_elim
          (λ (same : with_held (titled item) (firsts_found c kind text) ≡ take list_limit (firsts_found c kind text)). inl (found_stays (sym is ∙ same ∙ held_again)))
          (λ (has : Contains (with_held (titled item) (firsts_found c kind text)) (titled item)).
          let found_it : Contains (found now kind text) item.id = found_has (subst (λ items. Contains items (titled item)) is has) in
          inr (λ same. not_found (subst (λ ids. Contains ids item.id) same found_it), is_last found_it))
          (put_or_not by_titled list_limit (titled item) (firsts_found c kind text))
