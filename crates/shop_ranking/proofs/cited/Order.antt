-- By a total order, elements in order are sorted, and are the same elements.
use Rattle.std.proofs.Common.{◌≡◌, ℕ, zero, suc, ◌+◌, ◌<◌, Bool, true, false, List, [], ◌∷◌, length, get_or, cond, refl, sym, arith}
use Rattle.std.specs.Cmp.{IsTotalOrder}
use Rattle.std.specs.Cmp.Lexicographic.{slice_cmp}
use Rattle.std.specs.List.Sorted.{IsSorted, IsPermutation}
use Rattle.std.specs.Ordering.{is_lt, is_gt, ordering_reverse, ordering_then, nat_cmp}
use Rattle.std.specs.declared.cmp.Ordering.{Ordering}
use Rattle.std.specs.declared.cmp.Ordering.TheVariants.{Less, Equal, Greater}
use Rattle.std.proofs.lemmas.List.Sorted.{IsPermutation-refl, IsPermutation-trans, IsPermutation-cons, IsPermutation-middle}
use Rattle.std.proofs.lemmas.Cmp.{nat_cmp_total, nat_list_cmp_total, on_total, then_total, back_total, ranked, by_ranked}
use Rattle.shop_model.specs.lists.Rankings.{Sale, put_among, in_order, better}
use Rattle.shop_ranking.specs.StandingNewest.{Book, later}
use Rattle.shop_ranking.specs.Order.{IsInOrder, IsStrict}

permutes_either : {A : Type 0} (b : Bool) (all left right : List A)
    → IsPermutation all left → IsPermutation all right → IsPermutation all (cond b left right)
permutes_either true all left right one other = one
permutes_either false all left right one other = other

put_permutes : {A : Type 0} (order : A → A → Ordering) (x : A) (xs : List A) → IsPermutation (x ∷ xs) (put_among order x xs)
unfolding put_among
put_permutes order x [] = IsPermutation-refl (x ∷ [])
put_permutes order x (y ∷ ys) =
    permutes_either (is_gt (order x y)) (x ∷ y ∷ ys) (y ∷ put_among order x ys) (x ∷ y ∷ ys)
    (IsPermutation-trans (x ∷ y ∷ ys) (y ∷ x ∷ ys) (y ∷ put_among order x ys) (IsPermutation-middle (x ∷ []) y ys)
    (IsPermutation-cons y (x ∷ ys) (put_among order x ys) (put_permutes order x ys)))
    (IsPermutation-refl (x ∷ y ∷ ys))

order_permutes : {A : Type 0} (order : A → A → Ordering) (xs : List A) → IsPermutation xs (in_order order xs)
unfolding in_order
order_permutes order [] = IsPermutation-refl []
order_permutes order (x ∷ xs) =
    IsPermutation-trans (x ∷ xs) (x ∷ in_order order xs) (put_among order x (in_order order xs))
    (IsPermutation-cons x xs (in_order order xs) (order_permutes order xs)) (put_permutes order x (in_order order xs))

-- the first of these does not come before
abbrev Leads : {A : Type 0} → (A → A → Ordering) → A → List A → Type 0
Leads order x [] = Unit {0}
Leads order x (y ∷ ys) = is_lt (order y x) ≡ false

sorted_at : {A : Type 0} (order : A → A → Ordering) (x y : A) (ys : List A)
    → is_lt (order y x) ≡ false → IsSorted order (y ∷ ys) → (k : ℕ) (d : A) → k + 1 < length (x ∷ y ∷ ys)
    → is_lt (order (get_or (x ∷ y ∷ ys) (k + 1) d) (get_or (x ∷ y ∷ ys) k d)) ≡ false
sorted_at order x y ys leads sorted zero d high = leads
sorted_at order x y ys leads sorted (suc k) d high =
    let e : suc k + 1 ≡ suc (k + 1) = omega arith in rw e (sorted k d (omega arith) (omega arith))

sorted_cons : {A : Type 0} (order : A → A → Ordering) (x : A) (xs : List A)
    → Leads order x xs → IsSorted order xs → IsSorted order (x ∷ xs)
sorted_cons order x [] leads sorted = λ k d low high. absurd (omega arith)
sorted_cons order x (y ∷ ys) leads sorted = λ k d low high. sorted_at order x y ys leads sorted k d high

pub sorted_tail : {A : Type 0} (order : A → A → Ordering) (x : A) (xs : List A) → IsSorted order (x ∷ xs) → IsSorted order xs
sorted_tail order x xs sorted = λ k d low high.
    let e : suc k + 1 ≡ suc (k + 1) = omega arith in
    rw e at (sorted (suc k) d (omega arith) (omega arith))

sorted_leads : {A : Type 0} (order : A → A → Ordering) (x : A) (xs : List A) → IsSorted order (x ∷ xs) → Leads order x xs
sorted_leads order x [] sorted = tt
sorted_leads order x (y ∷ ys) sorted = sorted 0 y (omega arith) (omega arith)

not_before : (o : Ordering) → is_gt o ≡ true → is_lt o ≡ false
not_before Less after = cc
not_before Equal after = refl
not_before Greater after = refl

not_after : (o p : Ordering) → p ≡ ordering_reverse o → is_gt o ≡ false → is_lt p ≡ false
not_after Less p turned before = rw turned refl
not_after Equal p turned before = rw turned refl
not_after Greater p turned before = cc

leads_either : {A : Type 0} (order : A → A → Ordering) (b : Bool) (y : A) (left right : List A)
    → Leads order y left → Leads order y right → Leads order y (cond b left right)
leads_either order true y left right one other = one
leads_either order false y left right one other = other

put_leads : {A : Type 0} (order : A → A → Ordering) (x y : A) (ys : List A)
    → Leads order y ys → is_lt (order x y) ≡ false → Leads order y (put_among order x ys)
unfolding put_among
put_leads order x y [] leads fits = fits
put_leads order x y (z ∷ zs) leads fits =
    leads_either order (is_gt (order x z)) y (z ∷ put_among order x zs) (x ∷ z ∷ zs) leads fits

put_sorted_by : {A : Type 0} (order : A → A → Ordering) → IsTotalOrder order → (b : Bool) (x y : A) (ys : List A)
    → is_gt (order x y) ≡ b → IsSorted order (y ∷ ys) → IsSorted order (put_among order x ys)
    → IsSorted order (cond b (y ∷ put_among order x ys) (x ∷ y ∷ ys))
put_sorted_by order total true x y ys is sorted rest =
    sorted_cons order y (put_among order x ys)
    (put_leads order x y ys (sorted_leads order y ys sorted) (not_before (order x y) is)) rest
put_sorted_by order total false x y ys is sorted rest =
    sorted_cons order x (y ∷ ys) (not_after (order x y) (order y x) (total.antisymm y x) is) sorted

put_sorted : {A : Type 0} (order : A → A → Ordering) → IsTotalOrder order → (x : A) (xs : List A)
    → IsSorted order xs → IsSorted order (put_among order x xs)
unfolding put_among
put_sorted order total x [] sorted = sorted_cons order x [] tt sorted
put_sorted order total x (y ∷ ys) sorted =
    put_sorted_by order total (is_gt (order x y)) x y ys refl sorted (put_sorted order total x ys (sorted_tail order y ys sorted))

order_sorted : {A : Type 0} (order : A → A → Ordering) → IsTotalOrder order → (xs : List A) → IsSorted order (in_order order xs)
unfolding in_order
order_sorted order total [] = λ k d low high. absurd (omega arith)
order_sorted order total (x ∷ xs) = put_sorted order total x (in_order order xs) (order_sorted order total xs)

-- by a total order
pub is_in_order : {A : Type 0} (order : A → A → Ordering) → IsTotalOrder order → (xs : List A) → IsInOrder order xs
is_in_order order total xs = record { sorted = order_sorted order total xs; same = order_permutes order xs }

better_total : IsTotalOrder better
better_total =
    then_total (back_total (on_total (λ (s : Sale). s.units) nat_cmp_total)) (on_total (λ (s : Sale). s.id) nat_cmp_total)

pub ordering_parts : (o p : Ordering) → ordering_then o p ≡ Equal → (o ≡ Equal) × (p ≡ Equal)
ordering_parts Less p tied = cc
ordering_parts Equal p tied = (refl, tied)
ordering_parts Greater p tied = cc

abbrev the_sale : ℕ → ℕ → Sale
the_sale i n = record { id = i; units = n }

pub same_number : (m n : ℕ) → nat_cmp m n ≡ Equal → m ≡ n
same_number m n tied = by_ranked (m < n) (m ≡ n) (n < m) (nat_cmp m n) (ranked m n (nat_cmp m n) refl)
    (λ less _. cc) (λ _ same. same) (λ more _. cc)

pub same_title : (s t : List ℕ) → slice_cmp nat_cmp s t ≡ Equal → s ≡ t
same_title [] [] tied = refl
same_title [] (y ∷ ys) tied = cc
same_title (x ∷ xs) [] tied = cc
same_title (x ∷ xs) (y ∷ ys) tied =
    let parts = ordering_parts (nat_cmp x y) (slice_cmp nat_cmp xs ys) tied in
    rw (same_number x y parts.0, same_title xs ys parts.1) refl

same_sale : (i j u v : ℕ) → i ≡ j → u ≡ v → the_sale i u ≡ the_sale j v
same_sale i j u v ids units = rw (ids, units) refl

pub better_strict : IsStrict better
better_strict = record {
  total = better_total;
  apart = λ x y tied.
      let parts = ordering_parts (nat_cmp y.units x.units) (nat_cmp x.id y.id) tied in
      same_sale x.id y.id x.units y.units (same_number x.id y.id parts.1) (sym (same_number y.units x.units parts.0));
}

later_total : IsTotalOrder later
later_total =
    then_total (back_total (on_total (λ (b : Book). b.published) nat_cmp_total))
    (then_total (on_total (λ (b : Book). b.title) nat_list_cmp_total) (on_total (λ (b : Book). b.id) nat_cmp_total))

abbrev the_book : ℕ → List ℕ → ℕ → Book
the_book i t p = record { id = i; title = t; published = p }

same_book : (i j : ℕ) (s t : List ℕ) (p q : ℕ) → i ≡ j → s ≡ t → p ≡ q → the_book i s p ≡ the_book j t q
same_book i j s t p q ids titles days = rw (ids, titles, days) refl

pub later_strict : IsStrict later
later_strict = record {
  total = later_total;
  apart = λ x y tied.
      let parts = ordering_parts (nat_cmp y.published x.published) _ tied in
      let more = ordering_parts (slice_cmp nat_cmp x.title y.title) (nat_cmp x.id y.id) parts.1 in
      same_book x.id y.id x.title y.title x.published y.published
      (same_number x.id y.id more.1) (same_title x.title y.title more.0) (sym (same_number y.published x.published parts.0));
}

pub later_in_order : (books : List Book) → IsInOrder later books
later_in_order books = is_in_order later later_total books

pub better_in_order : (sales : List Sale) → IsInOrder better sales
better_in_order sales = is_in_order better better_total sales
