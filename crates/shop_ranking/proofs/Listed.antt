-- What is listed under a subject, as what stands of one item changes.
use Rattle.std.proofs.Common.{◌≡◌, ℕ, zero, suc, ◌<◌, ◌≤◌, Bool, true, false, cond, ◌&&◌, List, [], ◌∷◌, length, filter, get_or, set, refl, ap, ◌∙◌, arith}
use Rattle.std.specs.List.{All, remove}
use Rattle.std.specs.declared.cmp.Ordering.{Ordering}
use Rattle.shop_model.specs.declared.subject.Subject.{Subject}
use Rattle.shop_model.specs.lists.Rankings.{put_among, in_order}
use Rattle.shop_model.proofs.cited.Lists.{all_head, all_tail}
use Rattle.shop_ranking.specs.Order.{IsStrict, put_shown}
use Rattle.shop_ranking.specs.Standing.{is_under, listed}
use Rattle.shop_ranking.proofs.Putting.{put_shown_swap}

-- what is listed besides one item
abbrev pub besides : {A : Type 0} → (A → Bool) → Subject → List Subject → List A → ℕ → List A
besides shown subject owns xs k = listed shown subject (remove owns k) (remove xs k)

one_by : {A : Type 0} (shown : A → Bool) (order : A → A → Ordering) (b : Bool) (x : A) (xs : List A)
    → in_order order (cond b (x ∷ xs) xs) ≡ cond b (put_among order x (in_order order xs)) (in_order order xs)
unfolding in_order
one_by shown order true x xs = refl
one_by shown order false x xs = refl

more_by : {A : Type 0} (shown : A → Bool) (order : A → A → Ordering) → IsStrict order → (b : Bool) (x y : A) (xs ys : List A)
    → in_order order xs ≡ put_shown shown order y (in_order order ys)
    → in_order order (cond b (x ∷ xs) xs) ≡ put_shown shown order y (in_order order (cond b (x ∷ ys) ys))
unfolding in_order
more_by shown order strict true x y xs ys is =
    ap (put_among order x) is ∙ put_shown_swap shown order strict x y (in_order order ys)
more_by shown order strict false x y xs ys is = is

-- in order, an item that is listed stands among the others
pub listed_at : {A : Type 0} (shown : A → Bool) (order : A → A → Ordering) → IsStrict order → (subject own : Subject) (owns : List Subject) (x : A) (xs : List A) (k : ℕ)
    → k < length owns → k < length xs → is_under subject (get_or owns k own) ≡ true
    → in_order order (listed shown subject owns xs) ≡ put_shown shown order (get_or xs k x) (in_order order (besides shown subject owns xs k))
unfolding listed
listed_at shown order strict subject own [] x xs k low within under = absurd (omega arith)
listed_at shown order strict subject own (o ∷ owns) x [] k low within under = absurd (omega arith)
listed_at shown order strict subject own (o ∷ owns) x (y ∷ xs) zero low within under =
    rw under (one_by shown order (shown y) y (listed shown subject owns xs))
listed_at shown order strict subject own (o ∷ owns) x (y ∷ xs) (suc k) low within under =
    more_by shown order strict (is_under subject o && shown y) y (get_or xs k x) (listed shown subject owns xs) (besides shown subject owns xs k)
    (listed_at shown order strict subject own owns x xs k (omega arith) (omega arith) under)

-- an item that is not under the subject makes no difference
pub listed_other : {A : Type 0} (shown : A → Bool) (subject own : Subject) (owns : List Subject) (x : A) (xs : List A) (k : ℕ)
    → k < length owns → is_under subject (get_or owns k own) ≡ false
    → listed shown subject owns (set xs k x) ≡ listed shown subject owns xs
unfolding listed
listed_other shown subject own [] x xs k low under = absurd (omega arith)
listed_other shown subject own (o ∷ owns) x [] k low under = refl
listed_other shown subject own (o ∷ owns) x (y ∷ xs) zero low under = rw under refl
listed_other shown subject own (o ∷ owns) x (y ∷ xs) (suc k) low under =
    rw (listed_other shown subject own owns x xs k (omega arith) under) refl

length_by : {A : Type 0} (b c : Bool) (x : A) (xs : List A) (o : Subject) (owns : List Subject)
    → length xs ≤ length owns → length (cond (b && c) (x ∷ xs) xs) ≤ length (cond b (o ∷ owns) owns)
length_by true true x xs o owns few = omega arith
length_by true false x xs o owns few = omega arith
length_by false c x xs o owns few = few

-- no more is listed than the subject has items
pub length_listed : {A : Type 0} (shown : A → Bool) (subject : Subject) (owns : List Subject) (xs : List A)
    → length (listed shown subject owns xs) ≤ length (filter (is_under subject) owns)
unfolding listed
length_listed shown subject [] xs = omega arith
length_listed shown subject (o ∷ owns) [] = omega arith
length_listed shown subject (o ∷ owns) (x ∷ xs) =
    length_by (is_under subject o) (shown x) x (listed shown subject owns xs) o (filter (is_under subject) owns)
    (length_listed shown subject owns xs)

besides_by : {A : Type 0} (b c : Bool) (x : A) (xs : List A) (o : Subject) (owns : List Subject)
    → length xs < length owns → length (cond (b && c) (x ∷ xs) xs) < length (cond b (o ∷ owns) owns)
besides_by true true x xs o owns few = omega arith
besides_by true false x xs o owns few = omega arith
besides_by false c x xs o owns few = few

-- besides one of its items less is listed
pub length_besides : {A : Type 0} (shown : A → Bool) (subject own : Subject) (owns : List Subject) (xs : List A) (k : ℕ)
    → k < length owns → k < length xs → is_under subject (get_or owns k own) ≡ true
    → length (besides shown subject owns xs k) < length (filter (is_under subject) owns)
unfolding listed
length_besides shown subject own [] xs k low within under = absurd (omega arith)
length_besides shown subject own (o ∷ owns) [] k low within under = absurd (omega arith)
length_besides shown subject own (o ∷ owns) (x ∷ xs) zero low within under =
    rw under (omega (arith, length_listed shown subject owns xs))
length_besides shown subject own (o ∷ owns) (x ∷ xs) (suc k) low within under =
    besides_by (is_under subject o) (shown x) x (besides shown subject owns xs k) o (filter (is_under subject) owns)
    (length_besides shown subject own owns xs k (omega arith) (omega arith) under)

none_by : {A : Type 0} (b : Bool) (x : A) (xs : List A) → xs ≡ [] → cond (b && false) (x ∷ xs) xs ≡ []
none_by true x xs none = none
none_by false x xs none = none

-- where none of the elements is shown
pub none_listed : {A : Type 0} (shown : A → Bool) (subject : Subject) (owns : List Subject) (xs : List A)
    → All (λ x. shown x ≡ false) xs → listed shown subject owns xs ≡ []
unfolding listed
none_listed shown subject [] xs hidden = refl
none_listed shown subject (o ∷ owns) [] hidden = refl
none_listed shown subject (o ∷ owns) (x ∷ xs) hidden =
    rw (all_head (λ x. shown x ≡ false) x xs hidden) (none_by (is_under subject o) x (listed shown subject owns xs)
    (none_listed shown subject owns xs (all_tail (λ x. shown x ≡ false) x xs hidden)))
