-- The related items are five, distinct, items that there are, and none is the item itself.
use Rattle.std.proofs.Common.{◌≡◌, ◌≢◌, ℕ, zero, suc, ◌+◌, ◌-◌, ◌<◌, ◌≤◌, Bool, true, false, not, ◌&&◌, ◌||◌, eqb, nat_lt, List, [], ◌∷◌, ◌++◌, length, map, filter, take, All, AllPairs, refl, sym, ◌∙◌, ap, subst, arith, length-append, ⊎_elim}
use Rattle.std.specs.List.{range_with_len, list_any, AllByRecursion}
use Rattle.std.specs.Ordering.{is_gt}
use Rattle.std.specs.declared.cmp.Ordering.{Ordering}
use Rattle.std.proofs.lemmas.Bool.{cond_both, eq-eqb, ne_eqb, eqb-false, or_parts, cases_eq}
use Rattle.std.proofs.lemmas.List.{length-take-le}
use Rattle.std.proofs.lemmas.List.Elements.{All-from_recursion}
use Rattle.std.proofs.lemmas.List.FromFn.{length-range_with_len}
use Rattle.std.proofs.lemmas.List.Kept.{AllPairs-cons}
use Rattle.shop_model.specs.lists.Rankings.{Sale, better, in_order, put_among}
use Rattle.shop_model.specs.lists.Related.{five_of, cycle, sale_among}
use Rattle.shop_model.specs.lists.Related as related
use Rattle.shop_model.specs.rows.Sound.{Has}

-- what holds of all elements

module _ {A : Type 0} (P : A → Type 0) where
  all_take : (n : ℕ) (xs : List A) → AllByRecursion P xs → AllByRecursion P (take n xs)
  all_take zero xs all = tt
  all_take (suc n) [] all = tt
  all_take (suc n) (x ∷ xs) all = (all.0, all_take n xs all.1)

  all_append : (xs ys : List A) → AllByRecursion P xs → AllByRecursion P ys → AllByRecursion P (xs ++ ys)
  all_append [] ys one other = other
  all_append (x ∷ xs) ys one other = (one.0, all_append xs ys one.1 other)

  all_filter : (p : A → Bool) (xs : List A) → AllByRecursion P xs → AllByRecursion P (filter p xs)
  all_filter p [] all = tt
  all_filter p (x ∷ xs) all = cond_both (p x) (x ∷ filter p xs) (filter p xs) (AllByRecursion P) (λ _. (all.0, all_filter p xs all.1)) (λ _. all_filter p xs all.1)

  all_passed : (p : A → Bool) (xs : List A) → ((x : A) → p x ≡ true → P x) → AllByRecursion P (filter p xs)
  all_passed p [] says = tt
  all_passed p (x ∷ xs) says = cond_both (p x) (x ∷ filter p xs) (filter p xs) (AllByRecursion P) (λ is. (says x is, all_passed p xs says)) (λ _. all_passed p xs says)

  all_put : (order : A → A → Ordering) (x : A) (xs : List A) → P x → AllByRecursion P xs → AllByRecursion P (put_among order x xs)
  unfolding put_among
  all_put order x [] is all = (is, tt)
  all_put order x (y ∷ ys) is all = cond_both (is_gt (order x y)) (y ∷ put_among order x ys) (x ∷ y ∷ ys) (AllByRecursion P) (λ _. (all.0, all_put order x ys is all.1)) (λ _. (is, all))

  all_ordered : (order : A → A → Ordering) (xs : List A) → AllByRecursion P xs → AllByRecursion P (in_order order xs)
  unfolding in_order
  all_ordered order [] all = tt
  all_ordered order (x ∷ xs) all = all_put order x (in_order order xs) all.0 (all_ordered order xs all.1)

all_map : {A B : Type 0} (P : B → Type 0) (f : A → B) (xs : List A) → AllByRecursion (λ x. P (f x)) xs → AllByRecursion P (map f xs)
all_map P f [] all = tt
all_map P f (x ∷ xs) all = (all.0, all_map P f xs all.1)

all_weaker : {A : Type 0} (P Q : A → Type 0) (xs : List A) → ((x : A) → P x → Q x) → AllByRecursion P xs → AllByRecursion Q xs
all_weaker P Q [] says all = tt
all_weaker P Q (x ∷ xs) says all = (says x all.0, all_weaker P Q xs says all.1)

-- elements that are seen as different numbers

module _ {A : Type 0} (see : A → ℕ) where
  Others : A → List A → Type 0
  Others x xs = AllByRecursion (λ y. see x ≢ see y) xs

  Distinct : List A → Type 0
  Distinct [] = Unit {0}
  Distinct (x ∷ xs) = AllByRecursion (λ y. see x ≢ see y) xs × Distinct xs

  distinct_take : (n : ℕ) (xs : List A) → Distinct xs → Distinct (take n xs)
  unfolding Distinct
  distinct_take zero xs all = tt
  distinct_take (suc n) [] all = tt
  distinct_take (suc n) (x ∷ xs) all = (all_take (λ y. see x ≢ see y) n xs all.0, distinct_take n xs all.1)

  distinct_filter : (p : A → Bool) (xs : List A) → Distinct xs → Distinct (filter p xs)
  unfolding Distinct
  distinct_filter p [] all = tt
  distinct_filter p (x ∷ xs) all = cond_both (p x) (x ∷ filter p xs) (filter p xs) Distinct (λ _. (all_filter (λ y. see x ≢ see y) p xs all.0, distinct_filter p xs all.1)) (λ _. distinct_filter p xs all.1)

  distinct_put : (order : A → A → Ordering) (x : A) (xs : List A) → AllByRecursion (λ y. see x ≢ see y) xs → Distinct xs → Distinct (put_among order x xs)
  unfolding Distinct put_among
  distinct_put order x [] apart all = (tt, tt)
  distinct_put order x (y ∷ ys) apart all =
      cond_both (is_gt (order x y)) (y ∷ put_among order x ys) (x ∷ y ∷ ys) Distinct
      (λ _. (all_put (λ z. see y ≢ see z) order x ys (λ e. apart.0 (sym e)) all.0, distinct_put order x ys apart.1 all.1)) (λ _. (apart, all))

  distinct_ordered : (order : A → A → Ordering) (xs : List A) → Distinct xs → Distinct (in_order order xs)
  unfolding Distinct in_order
  distinct_ordered order [] all = tt
  distinct_ordered order (x ∷ xs) all = distinct_put order x (in_order order xs) (all_ordered (λ y. see x ≢ see y) order xs all.0) (distinct_ordered order xs all.1)

  distinct_append : (xs ys : List A) → Distinct xs → Distinct ys → AllByRecursion (λ x. AllByRecursion (λ y. see x ≢ see y) ys) xs → Distinct (xs ++ ys)
  unfolding Distinct
  distinct_append [] ys one other apart = other
  distinct_append (x ∷ xs) ys one other apart = (all_append (λ y. see x ≢ see y) xs ys one.0 apart.0, distinct_append xs ys one.1 other apart.1)

pairs_of : (xs : List ℕ) → Distinct (λ (m : ℕ). m) xs → AllPairs (λ a b. a ≢ b) xs
unfolding Distinct
pairs_of [] all = λ i j d lt within. absurd (omega arith)
pairs_of (x ∷ xs) all = AllPairs-cons (λ a b. a ≢ b) x xs (All-from_recursion (λ y. x ≢ y) xs all.0) (pairs_of xs all.1)

-- a range

range_above : (low from n : ℕ) → low ≤ from → AllByRecursion (λ m. low ≤ m) (range_with_len from n)
range_above low from zero le = tt
range_above low from (suc n) le = (le, range_above low (from + 1) n (omega (arith, le)))

range_below : (high from n : ℕ) → from + n ≤ high → AllByRecursion (λ m. m < high) (range_with_len from n)
range_below high from zero le = tt
range_below high from (suc n) le = (omega (arith, le), range_below high (from + 1) n (omega (arith, le)))

range_distinct : (from n : ℕ) → Distinct (λ (m : ℕ). m) (range_with_len from n)
unfolding Distinct
range_distinct from zero = tt
range_distinct from (suc n) =
    (all_weaker (λ m. from + 1 ≤ m) (λ m. from ≢ m) (range_with_len (from + 1) n) (λ m le e. omega (arith, le, e)) (range_above (from + 1) (from + 1) n (omega arith)), range_distinct (from + 1) n)

both : {A : Type 0} (P Q R : A → Type 0) (xs : List A) → ((x : A) → P x → Q x → R x) → AllByRecursion P xs → AllByRecursion Q xs → AllByRecursion R xs
both P Q R [] says one other = tt
both P Q R (x ∷ xs) says one other = (says x one.0 other.0, both P Q R xs says one.1 other.1)

-- an item that there is, and another than this one
record IsBesides (item items id : ℕ) : Type 0 where
  pub there : Has items id
  pub other : id ≢ item

cycle_besides : (item items : ℕ) → Has items item → AllByRecursion (IsBesides item items) (cycle item items)
cycle_besides item items is =
    all_append (IsBesides item items) (range_with_len (item + 1) (items - item)) (range_with_len 1 (item - 1))
    (both (λ m. item + 1 ≤ m) (λ m. m < items + 1) (IsBesides item items) (range_with_len (item + 1) (items - item))
    (λ m low high. record { there = record { first = omega (arith, low); last = omega (arith, high) }; other = λ e. omega (arith, low, e) })
    (range_above (item + 1) (item + 1) (items - item) (omega arith)) (range_below (items + 1) (item + 1) (items - item) (omega (arith, is.last))))
    (both (λ m. 1 ≤ m) (λ m. m < item) (IsBesides item items) (range_with_len 1 (item - 1))
    (λ m low high. record { there = record { first = low; last = omega (arith, high, is.last) }; other = λ e. omega (arith, high, e) })
    (range_above 1 1 (item - 1) (omega arith)) (range_below item 1 (item - 1) (omega (arith, is.first))))

cycle_distinct : (item items : ℕ) → Has items item → Distinct (λ (m : ℕ). m) (cycle item items)
cycle_distinct item items is =
    distinct_append (λ (m : ℕ). m) (range_with_len (item + 1) (items - item)) (range_with_len 1 (item - 1)) (range_distinct (item + 1) (items - item)) (range_distinct 1 (item - 1))
    (all_weaker (λ m. item + 1 ≤ m) (λ m. AllByRecursion (λ n. m ≢ n) (range_with_len 1 (item - 1))) (range_with_len (item + 1) (items - item))
    (λ m above. all_weaker (λ n. n < item) (λ n. m ≢ n) (range_with_len 1 (item - 1)) (λ n below e. omega (arith, above, below, e)) (range_below item 1 (item - 1) (omega (arith, is.first))))
    (range_above (item + 1) (item + 1) (items - item) (omega arith)))

cycle_length : (item items : ℕ) → Has items item → length (cycle item items) ≡ items - 1
cycle_length item items is = length-append (range_with_len (item + 1) (items - item)) (range_with_len 1 (item - 1)) ∙ omega (arith, length-range_with_len (item + 1) (items - item), length-range_with_len 1 (item - 1), is.first, is.last)

-- what is taken out of distinct numbers

none_out : (m : ℕ) (xs : List ℕ) → AllByRecursion (λ x. m ≢ x) xs → length (filter (λ x. not (eqb x m)) xs) ≡ length xs
none_out m [] apart = refl
none_out m (x ∷ xs) apart = grind (arith, none_out m xs apart.1, ne_eqb x m (λ e. apart.0 (sym e)))

one_out : (m : ℕ) (xs : List ℕ) → Distinct (λ (x : ℕ). x) xs → length xs ≤ length (filter (λ x. not (eqb x m)) xs) + 1
unfolding Distinct
one_out m [] all = omega arith
one_out m (x ∷ xs) all =
    ⊎_elim (λ (same : x ≡ m). let rest = none_out m xs (subst (λ n. AllByRecursion (λ y. n ≢ y) xs) same all.0) in grind (arith, eq-eqb x m same, rest))
    (λ (apart : x ≡ m → ⊥). grind (arith, ne_eqb x m apart, one_out m xs all.1)) (cases_eq x m)

filter_two : (p q r : ℕ → Bool) (xs : List ℕ) → ((x : ℕ) → r x ≡ (p x && q x)) → filter r xs ≡ filter p (filter q xs)
filter_two p q r [] same = refl
filter_two p q r (x ∷ xs) same = grind (arith, same x, filter_two p q r xs same)

not_either : (a b : Bool) → not (a || b) ≡ (not a && not b)
not_either true b = refl
not_either false b = refl

filter_all : (r : ℕ → Bool) (xs : List ℕ) → ((x : ℕ) → r x ≡ true) → filter r xs ≡ xs
filter_all r [] all = refl
filter_all r (x ∷ xs) all = grind (arith, all x, filter_all r xs all)

some_out : (ms xs : List ℕ) → Distinct (λ (x : ℕ). x) xs → length xs ≤ length (filter (λ x. not (list_any (eqb x) ms)) xs) + length ms
some_out [] xs all = omega (arith, ap (λ (l : List ℕ). length l) (filter_all (λ x. not (list_any (eqb x) [])) xs (λ x. refl)))
some_out (m ∷ ms) xs all =
    let rest : List ℕ = filter (λ x. not (list_any (eqb x) ms)) xs in
    let two : filter (λ x. not (list_any (eqb x) (m ∷ ms))) xs ≡ filter (λ x. not (eqb x m)) rest
    = filter_two (λ x. not (eqb x m)) (λ x. not (list_any (eqb x) ms)) (λ x. not (list_any (eqb x) (m ∷ ms))) xs (λ x. not_either (eqb x m) (list_any (eqb x) ms)) in
    omega (arith, ap (λ (l : List ℕ). length l) two, one_out m rest (distinct_filter (λ (x : ℕ). x) (λ x. not (list_any (eqb x) ms)) xs all), some_out ms xs all)

-- the five

-- what is not among others is apart from each
apart_from : (ms : List ℕ) (x : ℕ) → list_any (eqb x) ms ≡ false → AllByRecursion (λ m. m ≢ x) ms
apart_from [] x none = tt
apart_from (m ∷ ms) x none =
    let parts = or_parts (eqb x m) (list_any (eqb x) ms) none in ((λ e. eqb-false x m parts.0 (sym e)), apart_from ms x parts.1)

swap : (ms xs : List ℕ) → AllByRecursion (λ x. AllByRecursion (λ m. m ≢ x) ms) xs → AllByRecursion (λ m. AllByRecursion (λ x. m ≢ x) xs) ms
swap [] xs all = tt
swap (m ∷ ms) xs all =
    (all_weaker (λ x. AllByRecursion (λ n. n ≢ x) (m ∷ ms)) (λ x. m ≢ x) xs (λ x h. h.0) all, swap ms xs (all_weaker (λ x. AllByRecursion (λ n. n ≢ x) (m ∷ ms)) (λ x. AllByRecursion (λ n. n ≢ x) ms) xs (λ x h. h.1) all))

not_true : (b : Bool) → not b ≡ true → b ≡ false
not_true false is = refl
not_true true is = absurd cc

and_right : (a b : Bool) → (a && b) ≡ true → b ≡ true
and_right true b is = is
and_right false b is = absurd cc

map_distinct : (xs : List Sale) → Distinct (λ (s : Sale). s.id) xs → Distinct (λ (m : ℕ). m) (map (λ (s : Sale). s.id) xs)
unfolding Distinct
map_distinct [] all = tt
map_distinct (x ∷ xs) all = (all_map (λ m. x.id ≢ m) (λ (s : Sale). s.id) xs all.0, map_distinct xs all.1)

distinct_map : (f : ℕ → Sale) (xs : List ℕ) → ((x : ℕ) → (f x).id ≡ x) → Distinct (λ (m : ℕ). m) xs → Distinct (λ (s : Sale). s.id) (map f xs)
unfolding Distinct
distinct_map f [] same all = tt
distinct_map f (x ∷ xs) same all =
    (all_map (λ (s : Sale). (f x).id ≢ s.id) f xs (all_weaker (λ y. x ≢ y) (λ y. (f x).id ≢ (f y).id) xs (λ y apart e. apart (sym (same x) ∙ e ∙ same y)) all.0), distinct_map f xs same all.1)

length_take : (n : ℕ) (xs : List Sale) → length (take n xs) ≤ n
length_take zero xs = omega arith
length_take (suc n) [] = omega arith
length_take (suc n) (x ∷ xs) = omega (arith, length_take n xs)

module _ (bought : List (List (ℕ × ℕ))) (item items : ℕ) (is : Has items item) (six : 6 ≤ items) where
  abbrev besides : List Sale
  besides = related.besides bought item items

  abbrev most : List ℕ
  most = map (λ (s : Sale). s.id) (take 5 (in_order better besides))

  abbrev others : List ℕ
  others = filter (λ id. not (list_any (eqb id) most)) (cycle item items)

  besides_are : AllByRecursion (λ (s : Sale). IsBesides item items s.id) besides
  besides_are =
      both (λ (s : Sale). Has items s.id) (λ (s : Sale). s.id ≢ item) (λ (s : Sale). IsBesides item items s.id) besides (λ s has other. record { there = has; other = other })
      (all_filter (λ (s : Sale). Has items s.id) _ (map (sale_among bought) (range_with_len 1 items))
      (all_map (λ (s : Sale). Has items s.id) (sale_among bought) (range_with_len 1 items)
      (both (λ m. 1 ≤ m) (λ m. m < items + 1) (λ m. Has items m) (range_with_len 1 items) (λ m low high. record { first = low; last = omega (arith, high) }) (range_above 1 1 items (omega arith)) (range_below (items + 1) 1 items (omega arith)))))
      (all_passed (λ (s : Sale). s.id ≢ item) _ (map (sale_among bought) (range_with_len 1 items)) (λ s passes. eqb-false s.id item (not_true (eqb s.id item) (and_right (nat_lt 0 s.units) (not (eqb s.id item)) passes))))

  most_are : AllByRecursion (IsBesides item items) most
  most_are = all_map (IsBesides item items) (λ (s : Sale). s.id) (take 5 (in_order better besides)) (all_take _ 5 (in_order better besides) (all_ordered _ better besides besides_are))

  most_distinct : Distinct (λ (m : ℕ). m) most
  most_distinct =
      map_distinct (take 5 (in_order better besides))
      (distinct_take (λ (s : Sale). s.id) 5 (in_order better besides)
      (distinct_ordered (λ (s : Sale). s.id) better besides
      (distinct_filter (λ (s : Sale). s.id) _ (map (sale_among bought) (range_with_len 1 items)) (distinct_map (sale_among bought) (range_with_len 1 items) (λ x. refl) (range_distinct 1 items)))))

  all_distinct : Distinct (λ (m : ℕ). m) (most ++ others)
  all_distinct =
      distinct_append (λ (m : ℕ). m) most others most_distinct (distinct_filter (λ (m : ℕ). m) _ (cycle item items) (cycle_distinct item items is))
      (swap most others (all_passed (λ x. AllByRecursion (λ m. m ≢ x) most) _ (cycle item items) (λ x passes. apart_from most x (not_true (list_any (eqb x) most) passes))))

  five_are : AllByRecursion (IsBesides item items) (five_of bought item items)
  unfolding five_of
  five_are = all_take (IsBesides item items) 5 (most ++ others) (all_append (IsBesides item items) most others most_are (all_filter (IsBesides item items) _ (cycle item items) (cycle_besides item items is)))

  five_distinct : Distinct (λ (m : ℕ). m) (five_of bought item items)
  unfolding five_of
  five_distinct = distinct_take (λ (m : ℕ). m) 5 (most ++ others) all_distinct

  five_five : length (five_of bought item items) ≡ 5
  unfolding five_of
  five_five =
      length-take-le 5 (most ++ others)
      (omega (arith, length-append most others, some_out most (cycle item items) (cycle_distinct item items is), cycle_length item items is, six))

  -- in the words of the ten conditions
  pub related_five : length (five_of bought item items) ≡ 5
  related_five = five_five

  pub related_distinct : AllPairs (λ a b. a ≢ b) (five_of bought item items)
  related_distinct = pairs_of (five_of bought item items) five_distinct

  pub related_others : All (λ a. a ≢ item) (five_of bought item items)
  related_others = All-from_recursion (λ a. a ≢ item) (five_of bought item items) (all_weaker (IsBesides item items) (λ a. a ≢ item) (five_of bought item items) (λ a h. h.other) five_are)

  pub related_there : All (Has items) (five_of bought item items)
  related_there = All-from_recursion (Has items) (five_of bought item items) (all_weaker (IsBesides item items) (Has items) (five_of bought item items) (λ a h. h.there) five_are)
