-- Lists, place by place.
use Rattle.std.proofs.Common.{◌≡◌, ℕ, zero, suc, ◌<◌, List, [], ◌∷◌, length, get_or, slice_get, Option, Some, refl, sym, ap, ◌∙◌, arith}
use Rattle.std.specs.List.{AllZip}
use Rattle.std.proofs.lemmas.Option.{get_or_from_slice_get, slice_get-get_or}

pub zip_then : {A B C : Type 0} (R : A → B → Type 0) (S : B → C → Type 0) (xs : List A) (ys : List B) (zs : List C) → AllZip R xs ys → AllZip S ys zs → AllZip (λ x z. (y : B) × R x y × S y z) xs zs
zip_then R S [] [] [] first second = tt
zip_then R S [] [] (z ∷ zs) first second = absurd second
zip_then R S [] (y ∷ ys) zs first second = absurd first
zip_then R S (x ∷ xs) [] zs first second = absurd first
zip_then R S (x ∷ xs) (y ∷ ys) [] first second = absurd second
zip_then R S (x ∷ xs) (y ∷ ys) (z ∷ zs) first second = ((y, first.0, second.0), zip_then R S xs ys zs first.1 second.1)

-- the pair at a place
abbrev pub PairAt : {A B : Type 0} → (A → B → Type 0) → List A → List B → ℕ → Type 0
PairAt {A} {B} R xs ys k = (x : A) × (y : B) × (slice_get xs k ≡ Some x) × (slice_get ys k ≡ Some y) × R x y

pub zip_at : {A B : Type 0} (R : A → B → Type 0) (xs : List A) (ys : List B) (k : ℕ) → AllZip R xs ys → k < length xs → PairAt R xs ys k
zip_at R [] ys k all within = absurd (omega (arith, within))
zip_at R (x ∷ xs) [] k all within = absurd all
zip_at R (x ∷ xs) (y ∷ ys) zero all within = (x, y, refl, refl, all.0)
zip_at R (x ∷ xs) (y ∷ ys) (suc k) all within = zip_at R xs ys k all.1 (omega (arith, within))

pub zip_size : {A B : Type 0} (R : A → B → Type 0) (xs : List A) (ys : List B) → AllZip R xs ys → length xs ≡ length ys
zip_size R [] [] all = refl
zip_size R [] (y ∷ ys) all = absurd all
zip_size R (x ∷ xs) [] all = absurd all
zip_size R (x ∷ xs) (y ∷ ys) all = ap suc (zip_size R xs ys all.1)

pub same_there : {A : Type 0} {x y : A} {o : Option A} → o ≡ Some x → o ≡ Some y → x ≡ y
same_there is other = (let both = sym is ∙ other in cc)

-- whatever stands behind the end
pub at_place : {A : Type 0} (xs : List A) (k : ℕ) (x y : A) → k < length xs → get_or xs k x ≡ get_or xs k y
at_place xs k x y within = get_or_from_slice_get xs k (get_or xs k y) x (slice_get-get_or xs k y within)
