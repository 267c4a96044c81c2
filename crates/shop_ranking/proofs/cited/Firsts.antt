-- The first elements of lists in order.
use Rattle.std.proofs.Common.{◌≡◌, ℕ, zero, suc, ◌+◌, Bool, true, false, cond, List, [], ◌∷◌, ◌++◌, take, refl, sym, ap, ◌∙◌, arith, append-nil, le_refl}
use Rattle.std.specs.Cmp.{IsTotalOrder}
use Rattle.std.specs.List.Sorted.{IsSorted}
use Rattle.std.specs.Ordering.{is_gt}
use Rattle.std.specs.declared.cmp.Ordering.{Ordering}
use Rattle.std.proofs.lemmas.List.{get_or-take, length-take, take-take}
use Rattle.shop_model.specs.lists.Rankings.{put_among, in_order}
use Rattle.shop_ranking.specs.Order.{IsStrict}
use Rattle.shop_ranking.proofs.cited.Order.{is_in_order, sorted_tail}
use Rattle.shop_ranking.proofs.cited.Putting.{turned, put_before, put_swap}

-- an element at the end is put among those before it
pub put_last : {A : Type 0} (order : A → A → Ordering) → IsStrict order → (x : A) (ys zs : List A)
    → in_order order (ys ++ x ∷ zs) ≡ put_among order x (in_order order (ys ++ zs))
unfolding in_order
put_last order strict x [] zs = refl
put_last order strict x (y ∷ ys) zs =
    ap (put_among order y) (put_last order strict x ys zs) ∙ put_swap order strict y x (in_order order (ys ++ zs))

pub put_end : {A : Type 0} (order : A → A → Ordering) → IsStrict order → (x : A) (xs : List A)
    → put_among order x (in_order order xs) ≡ in_order order (xs ++ x ∷ [])
put_end order strict x xs =
    ap (λ ys. put_among order x (in_order order ys)) (sym (append-nil xs)) ∙ sym (put_last order strict x xs [])

-- which of two lists stands first makes no difference
pub either_first : {A : Type 0} (order : A → A → Ordering) → IsStrict order → (xs ys : List A)
    → in_order order (xs ++ ys) ≡ in_order order (ys ++ xs)
unfolding in_order
either_first order strict [] ys = ap (in_order order) (sym (append-nil ys))
either_first order strict (x ∷ xs) ys =
    ap (put_among order x) (either_first order strict xs ys) ∙ sym (put_last order strict x ys xs)

put_by : {A : Type 0} (b : Bool) (n : ℕ) (x y : A) (put first ys : List A)
    → take n put ≡ take n first
    → take (suc n) (cond b (y ∷ put) (x ∷ y ∷ ys)) ≡ take (suc n) (cond b (y ∷ first) (x ∷ y ∷ take n ys))
put_by true n x y put first ys same = ap (λ zs. y ∷ zs) same
put_by false zero x y put first ys same = refl
put_by false (suc n) x y put first ys same = ap (λ zs. x ∷ y ∷ zs) (sym (take-take n (suc n) ys (omega arith)))

-- the first of those among which an element is put are all that count for the first ones
pub put_first : {A : Type 0} (order : A → A → Ordering) (n : ℕ) (x : A) (xs : List A)
    → take n (put_among order x xs) ≡ take n (put_among order x (take n xs))
unfolding put_among
put_first order zero x xs = refl
put_first order (suc n) x [] = refl
put_first order (suc n) x (y ∷ ys) =
    put_by (is_gt (order x y)) n x y (put_among order x ys) (put_among order x (take n ys)) ys (put_first order n x ys)

-- with one element more, which is put among the first ones
pub first_more : {A : Type 0} (order : A → A → Ordering) → IsStrict order → (n : ℕ) (x : A) (xs : List A)
    → take n (put_among order x (take n (in_order order xs))) ≡ take n (in_order order (xs ++ x ∷ []))
first_more order strict n x xs = sym (put_first order n x (in_order order xs)) ∙ ap (take n) (put_end order strict x xs)

-- sorted elements are in order
sorted_stay : {A : Type 0} (order : A → A → Ordering) → IsTotalOrder order → (xs : List A) → IsSorted order xs → in_order order xs ≡ xs
unfolding in_order put_among
sorted_stay order total [] sorted = refl
sorted_stay order total (x ∷ []) sorted = refl
sorted_stay order total (x ∷ y ∷ ys) sorted =
    ap (put_among order x) (sorted_stay order total (y ∷ ys) (sorted_tail order x (y ∷ ys) sorted))
    ∙ put_before order x y ys (turned (order x y) (order y x) (total.antisymm x y) (sorted 0 y (omega arith) (omega arith)))

sorted_first : {A : Type 0} (order : A → A → Ordering) (n : ℕ) (xs : List A) → IsSorted order xs → IsSorted order (take n xs)
sorted_first order n xs sorted = λ k d low high.
    let few = length-take n xs in
    rw (get_or-take n xs (k + 1) d (omega (arith, few)), get_or-take n xs k d (omega (arith, few))) (sorted k d low (omega (arith, few)))

-- the first ones are sorted
pub first_sorted : {A : Type 0} (order : A → A → Ordering) → IsTotalOrder order → (n : ℕ) (xs : List A) → IsSorted order (take n (in_order order xs))
first_sorted order total n xs = sorted_first order n (in_order order xs) (is_in_order order total xs).sorted

-- the first of those that stand behind others are all that count for the first ones
first_behind : {A : Type 0} (order : A → A → Ordering) → IsTotalOrder order → (n : ℕ) (xs ys : List A)
    → take n (in_order order (xs ++ take n (in_order order ys))) ≡ take n (in_order order (xs ++ ys))
unfolding in_order
first_behind order total n [] ys =
    ap (take n) (sorted_stay order total (take n (in_order order ys)) (first_sorted order total n ys)) ∙ take-take n n (in_order order ys) (le_refl n)
first_behind order total n (x ∷ xs) ys =
    put_first order n x (in_order order (xs ++ take n (in_order order ys)))
    ∙ ap (λ zs. take n (put_among order x zs)) (first_behind order total n xs ys)
    ∙ sym (put_first order n x (in_order order (xs ++ ys)))

-- the first of two lists are those of their first ones
pub first_merged : {A : Type 0} (order : A → A → Ordering) → IsStrict order → (n : ℕ) (xs ys : List A)
    → take n (in_order order (take n (in_order order xs) ++ take n (in_order order ys))) ≡ take n (in_order order (xs ++ ys))
first_merged order strict n xs ys =
    first_behind order strict.total n (take n (in_order order xs)) ys
    ∙ ap (take n) (either_first order strict (take n (in_order order xs)) ys)
    ∙ first_behind order strict.total n ys xs
    ∙ ap (take n) (either_first order strict ys xs)
