-- Items that follow one fill up those that were found.
use Rattle.std.proofs.Common.{◌≡◌, ◌≢◌, ℕ, zero, suc, ◌+◌, ◌-◌, ◌<◌, ◌≤◌, not, nat_eq, Bool, true, false, List, [], ◌∷◌, ◌++◌, length, filter, take, drop, get_or, refl, ap, sym, ◌∙◌, subst, arith, inl, inr, ◌⊎◌, if◌then◌else◌}
use Rattle.std.specs.List.{list_any, range_with_len}
use Rattle.std.proofs.Math.Nat.{eq-or-lt_of_le}
use Rattle.std.proofs.Math.Seq.{take-suc}
use Rattle.std.proofs.lemmas.Bool.{eqb-true, ne_eqb}
use Rattle.std.proofs.lemmas.List.{append_assoc, append-nil, length-append, take_all, take_at, take-append-drop, get_or_append_left, get_or-append_right}
use Rattle.std.proofs.lemmas.List.FromFn.{length-range_with_len, get_or-range_with_len}
use Rattle.std.proofs.lemmas.List.Elements.{filter-append}
use Rattle.shop_model.specs.lists.Related.{cycle, filled}

-- numbers that differ

abbrev IsMissing : ℕ → List ℕ → Type 0
IsMissing x [] = Unit {0}
IsMissing x (y ∷ ys) = (x ≢ y) × IsMissing x ys

abbrev AreApart : List ℕ → Type 0
AreApart [] = Unit {0}
AreApart (y ∷ ys) = IsMissing y ys × AreApart ys

missing_above : (x from n : ℕ) → x < from → IsMissing x (range_with_len from n)
missing_above x from zero low = tt
missing_above x from (suc n) low = ((λ e. absurd (omega (arith, e, low))), missing_above x (from + 1) n (omega (arith, low)))

missing_below : (x from n : ℕ) → from + n ≤ x → IsMissing x (range_with_len from n)
missing_below x from zero high = tt
missing_below x from (suc n) high = ((λ e. absurd (omega (arith, e, high))), missing_below x (from + 1) n (omega (arith, high)))

missing_append : (x : ℕ) (ys zs : List ℕ) → IsMissing x ys → IsMissing x zs → IsMissing x (ys ++ zs)
missing_append x [] zs left right = right
missing_append x (y ∷ ys) zs left right = (left.0, missing_append x ys zs left.1 right)

apart_range : (from n : ℕ) → AreApart (range_with_len from n)
apart_range from zero = tt
apart_range from (suc n) = (missing_above from (from + 1) n (omega arith), apart_range (from + 1) n)

apart_ranges : (from n m : ℕ) → m < from → AreApart (range_with_len from n ++ range_with_len 1 m)
apart_ranges from zero m low = apart_range 1 m
apart_ranges from (suc n) m low = (
  missing_append from (range_with_len (from + 1) n) (range_with_len 1 m)
      (missing_above from (from + 1) n (omega arith)) (missing_below from 1 m (omega (arith, low))),
  apart_ranges (from + 1) n m (omega (arith, low)),
)

apart_cycle : (item items : ℕ) → AreApart (cycle item items)
apart_cycle item items = apart_ranges (item + 1) (items - item) (item - 1) (omega arith)

length_cycle : (item items : ℕ) → 1 ≤ item → item ≤ items → length (cycle item items) ≡ items - 1
length_cycle item items first last =
    omega (
      arith,
      length-append (range_with_len (item + 1) (items - item)) (range_with_len 1 (item - 1)),
      length-range_with_len (item + 1) (items - item),
      length-range_with_len 1 (item - 1),
      first,
      last,
    )

pub cycle_first : (item items others : ℕ) → others < items - item → item + 1 + others ≡ get_or (cycle item items) others 0
cycle_first item items others low =
    let size = length-range_with_len (item + 1) (items - item) in
    sym (get_or_append_left (range_with_len (item + 1) (items - item)) (range_with_len 1 (item - 1)) 0 others (omega (arith, size, low))
    ∙ get_or-range_with_len (item + 1) (items - item) others 0 low)

pub cycle_then : (item items others : ℕ) → 1 ≤ item → item ≤ items → items - item ≤ others → others + 1 < items
    → 1 + (others - (items - item)) ≡ get_or (cycle item items) others 0
cycle_then item items others first last high within =
    sym (get_or-append_right (range_with_len (item + 1) (items - item)) (range_with_len 1 (item - 1)) (items - item) others 0
    (length-range_with_len (item + 1) (items - item)) high
    ∙ get_or-range_with_len 1 (item - 1) (others - (items - item)) 0 (omega (arith, first, last, high, within)))

-- of numbers that differ, at most as many are taken out as are found

abbrev other : ℕ → ℕ → Bool
other x y = not (nat_eq y x)

abbrev pub is_new : List ℕ → ℕ → Bool
is_new found id = not (list_any (nat_eq id) found)

kept_cons : (b : Bool) (p : ℕ → Bool) (y : ℕ) (ys : List ℕ) → p y ≡ b → filter p (y ∷ ys) ≡ (if b then y ∷ filter p ys else filter p ys)
kept_cons true p y ys is = rw is refl
kept_cons false p y ys is = rw is refl

all_other : (x : ℕ) (ys : List ℕ) → IsMissing x ys → filter (other x) ys ≡ ys
all_other x [] missing = refl
all_other x (y ∷ ys) missing =
    let apart : nat_eq y x ≡ false = ne_eqb y x (λ e. missing.0 (sym e)) in
    rw apart (ap (λ zs. y ∷ zs) (all_other x ys missing.1))

once_cons : (b : Bool) (x y : ℕ) (ys : List ℕ) → nat_eq y x ≡ b → IsMissing y ys → length ys ≤ suc (length (filter (other x) ys))
    → suc (length ys) ≤ suc (length (filter (other x) (y ∷ ys)))
once_cons true x y ys is missing rest =
    let same : y ≡ x = eqb-true y x is in
    rw is (rw (all_other x ys (subst (λ k. IsMissing k ys) same missing)) (omega arith))
once_cons false x y ys is missing rest = rw is (omega (arith, rest))

once : (x : ℕ) (ys : List ℕ) → AreApart ys → length ys ≤ suc (length (filter (other x) ys))
once x [] apart = omega arith
once x (y ∷ ys) apart = once_cons (nat_eq y x) x y ys refl apart.0 (once x ys apart.1)

missing_chosen : (b : Bool) (x y : ℕ) (zs : List ℕ) → x ≢ y → IsMissing x zs → IsMissing x (if b then y ∷ zs else zs)
missing_chosen true x y zs apart missing = (apart, missing)
missing_chosen false x y zs apart missing = missing

missing_filter : (p : ℕ → Bool) (x : ℕ) (ys : List ℕ) → IsMissing x ys → IsMissing x (filter p ys)
missing_filter p x [] missing = tt
missing_filter p x (y ∷ ys) missing = missing_chosen (p y) x y (filter p ys) missing.0 (missing_filter p x ys missing.1)

apart_chosen : (b : Bool) (y : ℕ) (zs : List ℕ) → IsMissing y zs → AreApart zs → AreApart (if b then y ∷ zs else zs)
apart_chosen true y zs missing apart = (missing, apart)
apart_chosen false y zs missing apart = apart

apart_filter : (p : ℕ → Bool) (ys : List ℕ) → AreApart ys → AreApart (filter p ys)
apart_filter p [] apart = tt
apart_filter p (y ∷ ys) apart = apart_chosen (p y) y (filter p ys) (missing_filter p y ys apart.0) (apart_filter p ys apart.1)

new_cons : (b c : Bool) (x : ℕ) (found : List ℕ) (y : ℕ) (ys : List ℕ) → nat_eq y x ≡ b → list_any (nat_eq y) found ≡ c
    → filter (is_new (x ∷ found)) ys ≡ filter (is_new found) (filter (other x) ys)
    → filter (is_new (x ∷ found)) (y ∷ ys) ≡ filter (is_new found) (filter (other x) (y ∷ ys))
new_cons true c x found y ys is among rest = rw is rest
new_cons false true x found y ys is among rest = rw (is, among) rest
new_cons false false x found y ys is among rest = rw (is, among) (ap (λ zs. y ∷ zs) rest)

new_after : (x : ℕ) (found ys : List ℕ) → filter (is_new (x ∷ found)) ys ≡ filter (is_new found) (filter (other x) ys)
new_after x found [] = refl
new_after x found (y ∷ ys) = new_cons (nat_eq y x) (list_any (nat_eq y) found) x found y ys refl refl (new_after x found ys)

all_new : (ys : List ℕ) → filter (is_new []) ys ≡ ys
all_new [] = refl
all_new (y ∷ ys) = ap (λ zs. y ∷ zs) (all_new ys)

enough_new : (found ys : List ℕ) → AreApart ys → length ys ≤ length found + length (filter (is_new found) ys)
enough_new [] ys apart = let all = ap length (all_new ys) in omega (arith, all)
enough_new (x ∷ found) ys apart =
    let rest = enough_new found (filter (other x) ys) (apart_filter (other x) ys apart) in
    let one = once x ys apart in
    let same = ap length (new_after x found ys) in
    omega (arith, rest, one, same)

-- those found, and the new ones of the first that follow
abbrev pub found : List ℕ → ℕ → ℕ → ℕ → List ℕ
found most item items others = most ++ filter (is_new most) (take others (cycle item items))

-- where fewer than five are found, not all were looked at
pub some_left : (most : List ℕ) (item items others : ℕ) → 6 ≤ items → 1 ≤ item → item ≤ items → others ≤ items - 1
    → length (found most item items others) < 5 → others + 1 < items
some_left most item items others six first last within few = by_end (eq-or-lt_of_le {n = others} {m = items - 1} within)
  where
    by_end : (others ≡ items - 1) ⊎ (others < items - 1) → others + 1 < items
    by_end (inl end) =
        let size = length_cycle item items first last in
        let all : take others (cycle item items) ≡ cycle item items = take_all others (cycle item items) (omega (arith, size, end)) in
        let enough = enough_new most (cycle item items) (apart_cycle item items) in
        let parts = length-append most (filter (is_new most) (take others (cycle item items))) in
        let same = ap (λ ys. length (filter (is_new most) ys)) all in
        absurd (omega (arith, size, enough, parts, same, few, six))
    by_end (inr before) = omega (arith, before)

found_suc : (most : List ℕ) (item items others : ℕ) → others < length (cycle item items)
    → found most item items (others + 1) ≡ found most item items others ++ filter (is_new most) (get_or (cycle item items) others 0 ∷ [])
found_suc most item items others within =
    let next : others + 1 ≡ suc others = omega arith in
    ap (λ k. most ++ filter (is_new most) (take k (cycle item items))) next
    ∙ ap (λ ys. most ++ filter (is_new most) ys) (take-suc (cycle item items) others 0 within)
    ∙ ap (λ ys. most ++ ys) (filter-append (is_new most) (take others (cycle item items)) (get_or (cycle item items) others 0 ∷ []))
    ∙ sym (append_assoc most (filter (is_new most) (take others (cycle item items))) (filter (is_new most) (get_or (cycle item items) others 0 ∷ [])))

pub found_new : (most : List ℕ) (item items others id : ℕ) → 1 ≤ item → item ≤ items → others + 1 < items → id ≡ get_or (cycle item items) others 0
    → list_any (nat_eq id) most ≡ false → found most item items (others + 1) ≡ found most item items others ++ id ∷ []
found_new most item items others id first last within is new =
    let size = length_cycle item items first last in
    found_suc most item items others (omega (arith, size, within)) ∙ rw (← is, new) refl

pub found_same : (most : List ℕ) (item items others id : ℕ) → 1 ≤ item → item ≤ items → others + 1 < items → id ≡ get_or (cycle item items) others 0
    → list_any (nat_eq id) most ≡ true → found most item items (others + 1) ≡ found most item items others
found_same most item items others id first last within is among =
    let size = length_cycle item items first last in
    found_suc most item items others (omega (arith, size, within)) ∙ rw (← is, among) (append-nil (found most item items others))

-- five are found
pub all_found : (most : List ℕ) (item items others : ℕ) → length (found most item items others) ≡ 5
    → found most item items others ≡ filled most (cycle item items)
all_found most item items others five =
    let front = take others (cycle item items) in
    let rest = drop others (cycle item items) in
    let all : filter (is_new most) (cycle item items) ≡ filter (is_new most) front ++ filter (is_new most) rest =
    ap (filter (is_new most)) (sym (take-append-drop others (cycle item items))) ∙ filter-append (is_new most) front rest in
    sym (ap (λ ys. take 5 (most ++ ys)) all
    ∙ ap (take 5) (sym (append_assoc most (filter (is_new most) front) (filter (is_new most) rest)))
    ∙ take_at (found most item items others) (filter (is_new most) rest) 5 five)
