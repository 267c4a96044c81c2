-- A counter after one more.
use Rattle.std.proofs.Common.{◌≡◌, ℕ, suc, ◌+◌, List, [], ◌∷◌, ◌++◌, length, ap, arith, length-append}
use Rattle.shop_edges.specs.Causes.{count_up}
use Rattle.shop_places.specs.Counts.{counted}

pub counted_next : (count n : ℕ) → counted (count + 1) n ≡ count_up (counted count n)
counted_next count n = let one : count + 1 ≡ suc count = omega arith in ap (λ m. counted m n) one

pub counted_more : {A : Type 0} (xs : List A) (x : A) (n : ℕ) → counted (length (xs ++ x ∷ [])) n ≡ count_up (counted (length xs) n)
counted_more xs x n = let one : length (xs ++ x ∷ []) ≡ suc (length xs) = omega (arith, length-append xs (x ∷ [])) in ap (λ m. counted m n) one
