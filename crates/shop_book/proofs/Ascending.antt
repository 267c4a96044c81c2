-- Numbers that are listed once, rising, are the same where they have the same numbers.
use Rattle.std.proofs.Common.{◌≡◌, ℕ, suc, ◌<◌, ◌≤◌, ◌==◌, ◌||◌, Bool, true, false, nat_lt, List, [], ◌∷◌, refl, sym, ◌∙◌, ap, ap₂, arith}
use Rattle.std.specs.List.{list_any}
use Rattle.std.proofs.lemmas.Bool.{eqb-true, eqb-false, eq-eqb, ne_eqb, ltb-true, ltb-false}
use Rattle.shop_model.specs.lists.Related.{put_once, ascending}
use Rattle.shop_window.proofs.Placing.{put_behind, put_same, put_before}

pub by_test : {X : Type 0} (b : Bool) → (b ≡ true → X) → (b ≡ false → X) → X
by_test true passes fails = passes refl
by_test false passes fails = fails refl

-- whether a number is among these
abbrev pub is_among : ℕ → List ℕ → Bool
is_among x ys = list_any (λ y. y == x) ys

-- numbers that rise, the first of which is no less than this
abbrev RisesFrom : ℕ → List ℕ → Type 0
RisesFrom low [] = Unit {0}
RisesFrom low (x ∷ xs) = (low ≤ x) × RisesFrom (suc x) xs

rises_less : (low less : ℕ) (xs : List ℕ) → less ≤ low → RisesFrom low xs → RisesFrom less xs
rises_less low less [] below rises = tt
rises_less low less (x ∷ xs) below rises = (omega (arith, below, rises.0), rises.1)

put_rises : (low x : ℕ) (ys : List ℕ) → low ≤ x → RisesFrom low ys → RisesFrom low (put_once x ys)
unfolding put_once
put_rises low x [] above rises = (above, tt)
put_rises low x (y ∷ ys) above rises =
    by_test (nat_lt y x)
    (λ (behind : nat_lt y x ≡ true).
    rw (put_behind x y ys behind) (rises.0, put_rises (suc y) x ys (omega (arith, ltb-true y x behind)) rises.1))
    (λ (not : nat_lt y x ≡ false).
    by_test (x == y)
    (λ (here : (x == y) ≡ true). rw (put_same x y ys not here) rises)
    (λ (apart : (x == y) ≡ false).
    let more : suc x ≤ y = omega (arith, ltb-false y x not, eqb-false x y apart) in
    rw (put_before x y ys not apart) (above, (more, rises.1))))

ascending_rises : (xs : List ℕ) → RisesFrom 0 (ascending xs)
unfolding ascending
ascending_rises [] = tt
ascending_rises (x ∷ xs) = put_rises 0 x (ascending xs) (omega arith) (ascending_rises xs)

-- which numbers are among them

or_swap : (a b c : Bool) → (a || (b || c)) ≡ (b || (a || c))
or_swap true true c = refl
or_swap true false c = refl
or_swap false true c = refl
or_swap false false c = refl

or_twice : (a c : Bool) → (a || (a || c)) ≡ (a || c)
or_twice true c = refl
or_twice false c = refl

put_among : (z x : ℕ) (ys : List ℕ) → is_among z (put_once x ys) ≡ is_among z (x ∷ ys)
unfolding put_once
put_among z x [] = refl
put_among z x (y ∷ ys) =
    by_test (nat_lt y x)
    (λ (behind : nat_lt y x ≡ true).
    rw (put_behind x y ys behind) (ap (λ b. (y == z) || b) (put_among z x ys) ∙ or_swap (y == z) (x == z) (is_among z ys)))
    (λ (not : nat_lt y x ≡ false).
    by_test (x == y)
    (λ (here : (x == y) ≡ true).
    let same : x ≡ y = eqb-true x y here in
    rw (put_same x y ys not here, same) (sym (or_twice (y == z) (is_among z ys))))
    (λ (apart : (x == y) ≡ false). rw (put_before x y ys not apart) refl))

pub ascending_among : (z : ℕ) (xs : List ℕ) → is_among z (ascending xs) ≡ is_among z xs
unfolding ascending
ascending_among z [] = refl
ascending_among z (x ∷ xs) = put_among z x (ascending xs) ∙ ap (λ b. (x == z) || b) (ascending_among z xs)

-- none below the first is among them
below_none : (low z : ℕ) (xs : List ℕ) → z < low → RisesFrom low xs → is_among z xs ≡ false
below_none low z [] below rises = refl
below_none low z (x ∷ xs) below rises =
    rw (ne_eqb x z (λ same. omega (arith, same, below, rises.0))) (below_none (suc x) z xs (omega (arith, below, rises.0)) rises.1)

first_among : (x : ℕ) (xs : List ℕ) → is_among x (x ∷ xs) ≡ true
first_among x xs = ap (λ b. b || is_among x xs) (eq-eqb x x refl)

pub true_false : {X : Type 0} (b : Bool) → b ≡ true → b ≡ false → X
true_false b passes fails = absurd (let not : true ≡ false = sym passes ∙ fails in cc)

rising_same : (low : ℕ) (xs ys : List ℕ) → RisesFrom low xs → RisesFrom low ys → ((z : ℕ) → is_among z xs ≡ is_among z ys) → xs ≡ ys
rising_same low [] [] one other same = refl
rising_same low [] (y ∷ ys) one other same = true_false (is_among y (y ∷ ys)) (first_among y ys) (sym (same y))
rising_same low (x ∷ xs) [] one other same = true_false (is_among x (x ∷ xs)) (first_among x xs) (same x)
rising_same low (x ∷ xs) (y ∷ ys) one other same =
    by_test (nat_lt x y)
    (λ (less : nat_lt x y ≡ true).
    true_false (is_among x (x ∷ xs)) (first_among x xs) (same x ∙ below_none y x (y ∷ ys) (ltb-true x y less) (omega arith, other.1)))
    (λ (no_less : nat_lt x y ≡ false).
    by_test (nat_lt y x)
    (λ (more : nat_lt y x ≡ true).
    true_false (is_among y (y ∷ ys)) (first_among y ys) (sym (same y) ∙ below_none x y (x ∷ xs) (ltb-true y x more) (omega arith, one.1)))
    (λ (no_more : nat_lt y x ≡ false).
    let first : x ≡ y = omega (arith, ltb-false x y no_less, ltb-false y x no_more) in
    let rest : xs ≡ ys = rising_same (suc x) xs ys one.1 (rw (sym first) at other.1) (λ z. behind first z) in
    ap₂ (λ (n : ℕ) (ns : List ℕ). n ∷ ns) first rest))
  where
    behind : x ≡ y → (z : ℕ) → is_among z xs ≡ is_among z ys
    behind first z =
        by_test (x == z)
        (λ (here : (x == z) ≡ true).
        let is : x ≡ z = eqb-true x z here in
        below_none (suc x) z xs (omega (arith, is)) one.1 ∙ sym (below_none (suc y) z ys (omega (arith, is, first)) other.1))
        (λ (apart : (x == z) ≡ false).
        let other_apart : (y == z) ≡ false = ap (λ n. n == z) (sym first) ∙ apart in
        sym (ap (λ b. b || is_among z xs) apart) ∙ same z ∙ ap (λ b. b || is_among z ys) other_apart)

-- the same numbers are listed alike
pub ascending_same : (xs ys : List ℕ) → ((z : ℕ) → is_among z xs ≡ is_among z ys) → ascending xs ≡ ascending ys
ascending_same xs ys same =
    rising_same 0 (ascending xs) (ascending ys) (ascending_rises xs) (ascending_rises ys)
    (λ z. ascending_among z xs ∙ same z ∙ sym (ascending_among z ys))
