-- What lists have at their ends, and what they contain.
use Rattle.std.proofs.Common.{◌≡◌, ℕ, zero, suc, ◌+◌, ◌-◌, ◌<◌, ◌≤◌, List, [], ◌∷◌, ◌++◌, length, drop, map, Contains, append_assoc, get_or, refl, ◌∙◌, ap, arith}
use Rattle.std.specs.List.{range_with_len}
use Rattle.std.proofs.Math.Seq.{drop-cons}

-- what comes in turn behind a list comes together
pub appended_twice : {A : Type 0} (old between now first second : List A) → between ≡ old ++ first → now ≡ between ++ second → now ≡ old ++ (first ++ second)
appended_twice old between now first second one other = rw (other, one) (append_assoc old first second)

-- one number more
pub range_more : (a n : ℕ) → range_with_len a (suc n) ≡ range_with_len a n ++ (a + n) ∷ []
range_more a zero = ap (λ m. m ∷ []) (omega arith)
range_more a (suc n) = ap (λ ns. a ∷ ns) (range_more (a + 1) n ∙ ap (λ m. range_with_len (a + 1) n ++ m ∷ []) (omega arith))

-- the rest of a list, from the element at a place on, counted from 1
pub drop_before : {A : Type 0} (xs : List A) (i : ℕ) (d : A) → 0 < i → i ≤ length xs → drop (i - 1) xs ≡ get_or xs (i - 1) d ∷ drop i xs
drop_before xs zero d some within = absurd (omega arith)
drop_before xs (suc i) d some within = let e : suc i - 1 ≡ i = omega arith in rw e (drop-cons xs i d (omega arith))

pub contains_first : {A : Type 0} (x : A) (xs : List A) → Contains (x ∷ xs) x
contains_first x xs = (0, omega arith, refl)

pub contains_later : {A : Type 0} (y : A) (xs : List A) (x : A) → Contains xs x → Contains (y ∷ xs) x
contains_later y xs x has = (suc has.0, omega (arith, has.1), has.2)

pub contains_map : {A B : Type 0} (f : A → B) (xs : List A) (x : A) → Contains xs x → Contains (map f xs) (f x)
contains_map f [] x has = absurd (omega (arith, has.1))
contains_map {A} {B} f (y ∷ ys) x has = by has.0 has.1 has.2 (contains_map f ys x)
  where
    by : (k : ℕ) → k < suc (length ys) → get_or (y ∷ ys) k x ≡ x → (Contains ys x → Contains (map f ys) (f x)) → Contains (f y ∷ map f ys) (f x)
    by zero lt is behind = (0, omega arith, ap f is)
    by (suc k) lt is behind = let there = behind (k, omega (arith, lt), is) in (suc there.0, omega (arith, there.1), there.2)
