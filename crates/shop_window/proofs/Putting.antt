-- An element at its place among others in order, and the first ones of them.
use Rattle.std.proofs.Common.{◌≡◌, ℕ, zero, suc, ◌+◌, ◌<◌, ◌≤◌, Bool, true, false, List, [], ◌∷◌, ◌++◌, length, take, drop, get_or, refl, ap, cond, add-one, arith}
use Rattle.std.specs.List.{insert}
use Rattle.std.specs.Ordering.{is_gt}
use Rattle.std.specs.declared.cmp.Ordering.{Ordering}
use Rattle.std.proofs.lemmas.List.{take-take}
use Rattle.shop_model.specs.lists.Rankings.{put_among}

behind : {A : Type 0} (order : A → A → Ordering) (x : A) (xs : List A) (i : ℕ) (d : A)
    → i < length xs → is_gt (order x (get_or xs i d)) ≡ true
    → take i xs ++ put_among order x (drop i xs) ≡ take (suc i) xs ++ put_among order x (drop (suc i) xs)
unfolding put_among
behind order x [] i d within after = absurd (omega arith)
behind order x (y ∷ ys) zero d within after = rw after refl
behind order x (y ∷ ys) (suc i) d within after = ap (λ zs. y ∷ zs) (behind order x ys i d (omega arith) after)

-- behind an element that it comes after
pub place_behind : {A : Type 0} (order : A → A → Ordering) (x : A) (xs : List A) (i : ℕ) (d : A)
    → i < length xs → is_gt (order x (get_or xs i d)) ≡ true
    → take i xs ++ put_among order x (drop i xs) ≡ take (i + 1) xs ++ put_among order x (drop (i + 1) xs)
place_behind order x xs i d within after = rw add-one (behind order x xs i d within after)

-- before an element that it does not come after
pub place_before : {A : Type 0} (order : A → A → Ordering) (x : A) (xs : List A) (i : ℕ) (d : A)
    → i < length xs → is_gt (order x (get_or xs i d)) ≡ false
    → take i xs ++ put_among order x (drop i xs) ≡ insert xs i x
unfolding put_among
place_before order x [] i d within before = absurd (omega arith)
place_before order x (y ∷ ys) zero d within before = rw before refl
place_before order x (y ∷ ys) (suc i) d within before = ap (λ zs. y ∷ zs) (place_before order x ys i d (omega arith) before)

-- behind all
pub place_last : {A : Type 0} (order : A → A → Ordering) (x : A) (xs : List A) (i : ℕ)
    → length xs ≤ i → take i xs ++ put_among order x (drop i xs) ≡ insert xs (length xs) x
unfolding put_among
place_last order x [] zero over = refl
place_last order x [] (suc i) over = refl
place_last order x (y ∷ ys) zero over = absurd (omega arith)
place_last order x (y ∷ ys) (suc i) over = ap (λ zs. y ∷ zs) (place_last order x ys i (omega arith))

take_behind : {A : Type 0} (n : ℕ) (y : A) (ys : List A) → take n (y ∷ take n ys) ≡ take n (y ∷ ys)
take_behind zero y ys = refl
take_behind (suc n) y ys = ap (λ zs. y ∷ zs) (take-take n (suc n) ys (omega arith))

take_either : {A : Type 0} (n : ℕ) (b : Bool) (ps qs rs ss : List A)
    → take n ps ≡ take n qs → take n rs ≡ take n ss → take n (cond b ps rs) ≡ take n (cond b qs ss)
take_either n true ps qs rs ss first other = first
take_either n false ps qs rs ss first other = other

-- the first elements come from the first elements alone
pub take_put : {A : Type 0} (order : A → A → Ordering) (n : ℕ) (x : A) (xs : List A)
    → take n (put_among order x (take n xs)) ≡ take n (put_among order x xs)
unfolding put_among
take_put order zero x xs = refl
take_put order (suc n) x [] = refl
take_put order (suc n) x (y ∷ ys) =
    take_either (suc n) (is_gt (order x y)) (y ∷ put_among order x (take n ys)) (y ∷ put_among order x ys)
    (x ∷ y ∷ take n ys) (x ∷ y ∷ ys)
    (ap (λ zs. y ∷ zs) (take_put order n x ys)) (ap (λ zs. x ∷ zs) (take_behind n y ys))
