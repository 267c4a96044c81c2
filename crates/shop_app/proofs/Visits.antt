-- How many visits there are.
use Rattle.std.proofs.Common.{◌≡◌, ⊎_elim, ℕ, zero, suc, ◌+◌, ◌≤◌, ◌<◌, Bool, true, false, List, [], ◌∷◌, length, get_or, ◌==◌, refl, sym, ap, subst, arith}
use Rattle.std.specs.Prelude.{nat_le, cond, sum_by}
use Rattle.std.specs.List.{All}
use Rattle.std.proofs.lemmas.Bool.{cases_lt, eq-eqb, eqb-false, leb-false, leb-true, le-leb}
use Rattle.std.proofs.lemmas.List.Sums.{count_by-le-length, get_or-le-sum_by, length-filter, sum_by-cons}
use Rattle.shop_places.specs.Visits.{AreServed, Visit, visits_at, visits_of}

-- what has a number from 1 to n, each number at most once, is at most n
module _ {A : Type 0} (number : A → ℕ) where
  abbrev below : ℕ → A → ℕ
  below n x = cond (nat_le (number x) n) 1 0

  abbrev at : ℕ → A → ℕ
  at n x = cond (number x == n) 1 0

  next_one : (n : ℕ) (x : A) → below (n + 1) x ≤ below n x + at (n + 1) x
  next_one n x = by (nat_le (number x) (n + 1)) (nat_le (number x) n) (number x == n + 1) refl refl refl
    where
      by : (up low same : Bool) → nat_le (number x) (n + 1) ≡ up → nat_le (number x) n ≡ low → (number x == n + 1) ≡ same → cond up 1 0 ≤ cond low 1 0 + cond same 1 0
      by false low same is_up is_low is_same = omega arith
      by true true same is_up is_low is_same = omega arith
      by true false true is_up is_low is_same = omega arith
      by true false false is_up is_low is_same = absurd (eqb-false (number x) (n + 1) is_same (omega (arith, leb-true (number x) (n + 1) is_up, leb-false (number x) n is_low)))

  next : (n : ℕ) (xs : List A) → sum_by (below (n + 1)) xs ≤ sum_by (below n) xs + sum_by (at (n + 1)) xs
  next n [] = omega arith
  next n (x ∷ xs) = omega (arith, next_one n x, next n xs, sum_by-cons (below (n + 1)) x xs, sum_by-cons (below n) x xs, sum_by-cons (at (n + 1)) x xs)

  none_one : (x : A) → 1 ≤ number x → below 0 x ≡ 0
  none_one x least = by (nat_le (number x) 0) refl
    where
      by : (low : Bool) → nat_le (number x) 0 ≡ low → cond {A = ℕ} low 1 0 ≡ 0
      by false is = refl
      by true is = absurd (omega (arith, least, leb-true (number x) 0 is))

  none : (xs : List A) → All (λ x. 1 ≤ number x) xs → sum_by (below 0) xs ≡ 0
  none [] all = refl
  none (x ∷ xs) all = omega (arith, sum_by-cons (below 0) x xs, none_one x (all 0 x (omega arith)), none xs (λ k d within. all (suc k) d (omega (arith, within))))

  few : (n : ℕ) (xs : List A) → All (λ x. 1 ≤ number x) xs → ((l : ℕ) → 1 ≤ l → l ≤ n → sum_by (at l) xs ≤ 1) → sum_by (below n) xs ≤ n
  few zero xs least once = omega (arith, none xs least)
  few (suc n) xs least once =
      let up : suc n ≡ n + 1 = omega arith in
      subst (λ m. sum_by (below m) xs ≤ m) (sym up)
      (omega (arith, next n xs, few n xs least (λ l one most. once l one (omega (arith, most))), once (n + 1) (omega arith) (omega arith)))

  whole_one : (n : ℕ) (x : A) → number x ≤ n → below n x ≡ 1
  whole_one n x most = ap (λ (b : Bool). cond {A = ℕ} b 1 0) (le-leb (number x) n most)

  whole : (n : ℕ) (xs : List A) → All (λ x. number x ≤ n) xs → length xs ≡ sum_by (below n) xs
  whole n [] all = refl
  whole n (x ∷ xs) all = omega (arith, sum_by-cons (below n) x xs, whole_one n x (all 0 x (omega arith)), whole n xs (λ k d within. all (suc k) d (omega (arith, within))))

module _ {S I O P : Type 0} (Serves : S → I → O → S → I → O → P → Type 0) (firsts lasts : List S) (pairs : List (I × O)) (visits : List (Visit S I O P)) (links : ℕ)
    (are : AreServed Serves firsts lasts pairs visits links) where
  abbrev link_of : Visit S I O P → ℕ
  link_of v = v.link

  least : All (λ v. 1 ≤ link_of v) visits
  least k v within = (are.are k v within).0

  -- a number that is too large is nowhere
  most : All (λ v. link_of v ≤ links) visits
  most k v within =
      let l : ℕ = link_of (get_or visits k v) in
      ⊎_elim
      (λ (more : links < l).
      let here : cond {A = ℕ} (l == l) 1 0 ≤ visits_of l visits = get_or-le-sum_by (λ w. cond (link_of w == l) 1 0) visits k v within in
      let one : cond {A = ℕ} (l == l) 1 0 ≡ 1 = ap (λ (b : Bool). cond {A = ℕ} b 1 0) (eq-eqb l l refl) in
      absurd (omega (arith, here, one, are.none l more)))
      (λ (fits : l ≤ links). fits)
      (cases_lt links l)

  -- there are as many visits as links, and no more of them at one place
  pub visits_few : (place : ℕ) → length (visits_at place visits) ≤ links
  visits_few place =
      omega (
        arith,
        length-filter (λ v. v.place == place) visits,
        count_by-le-length (λ v. v.place == place) visits,
        whole link_of links visits most,
        few link_of links visits least (λ l one fits. omega (arith, are.once l one fits)),
      )
