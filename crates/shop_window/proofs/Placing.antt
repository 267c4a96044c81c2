-- A number at its place among rising ones.
use Rattle.std.proofs.Common.{◌≡◌, ◌≢◌, ℕ, suc, ◌<◌, ◌≤◌, ◌==◌, Bool, true, false, List, [], ◌∷◌, length, get_or, nat_lt, refl, ap, sym, subst, arith}
use Rattle.std.specs.List.{prefix_len, insert}
use Rattle.std.proofs.lemmas.Bool.{eq-eqb, ne_eqb}
use Rattle.shop_model.specs.lists.Related.{put_once}

-- how many numbers at the front are below this one
abbrev pub below : ℕ → List ℕ → ℕ
below x xs = prefix_len (λ n. nat_lt n x) xs

below_more : (x y : ℕ) (ys : List ℕ) → nat_lt y x ≡ true → below x (y ∷ ys) ≡ suc (below x ys)
below_more x y ys is = rw is (omega arith)

below_none : (x y : ℕ) (ys : List ℕ) → nat_lt y x ≡ false → below x (y ∷ ys) ≡ 0
below_none x y ys is = rw is refl

within_cons : (b : Bool) (x y : ℕ) (ys : List ℕ) → nat_lt y x ≡ b → below x ys ≤ length ys → below x (y ∷ ys) ≤ length (y ∷ ys)
within_cons true x y ys is rest = rw (below_more x y ys is) (omega arith)
within_cons false x y ys is rest = rw (below_none x y ys is) (omega arith)

pub below_within : (x : ℕ) (xs : List ℕ) → below x xs ≤ length xs
below_within x [] = omega arith
below_within x (y ∷ ys) = within_cons (nat_lt y x) x y ys refl (below_within x ys)

pub put_behind : (x y : ℕ) (ys : List ℕ) → nat_lt y x ≡ true → put_once x (y ∷ ys) ≡ y ∷ put_once x ys
unfolding put_once
put_behind x y ys is = rw is refl

pub put_same : (x y : ℕ) (ys : List ℕ) → nat_lt y x ≡ false → (x == y) ≡ true → put_once x (y ∷ ys) ≡ y ∷ ys
unfolding put_once
put_same x y ys is same = rw (is, same) refl

pub put_before : (x y : ℕ) (ys : List ℕ) → nat_lt y x ≡ false → (x == y) ≡ false → put_once x (y ∷ ys) ≡ x ∷ y ∷ ys
unfolding put_once
put_before x y ys is other = rw (is, other) refl

present_cons : (b : Bool) (x y d : ℕ) (ys : List ℕ) → nat_lt y x ≡ b
    → (below x ys < length ys → get_or ys (below x ys) d ≡ x → put_once x ys ≡ ys)
    → below x (y ∷ ys) < length (y ∷ ys) → get_or (y ∷ ys) (below x (y ∷ ys)) d ≡ x → put_once x (y ∷ ys) ≡ y ∷ ys
present_cons true x y d ys is rest within here =
    let at = below_more x y ys is in
    let there : get_or (y ∷ ys) (suc (below x ys)) d ≡ x = subst (λ k. get_or (y ∷ ys) k d ≡ x) at here in
    rw (put_behind x y ys is) (ap (λ zs. y ∷ zs) (rest (omega (arith, at)) there))
present_cons false x y d ys is rest within here =
    let same : y ≡ x = subst (λ k. get_or (y ∷ ys) k d ≡ x) (below_none x y ys is) here in
    put_same x y ys is (eq-eqb x y (sym same))

-- a number that is there
pub put_present : (x d : ℕ) (xs : List ℕ) → below x xs < length xs → get_or xs (below x xs) d ≡ x → put_once x xs ≡ xs
put_present x d [] within here = absurd (omega arith)
put_present x d (y ∷ ys) within here = present_cons (nat_lt y x) x y d ys refl (put_present x d ys) within here

absent_cons : (b : Bool) (x y d : ℕ) (ys : List ℕ) → nat_lt y x ≡ b
    → ((below x ys < length ys → get_or ys (below x ys) d ≢ x) → put_once x ys ≡ insert ys (below x ys) x)
    → (below x (y ∷ ys) < length (y ∷ ys) → get_or (y ∷ ys) (below x (y ∷ ys)) d ≢ x)
    → put_once x (y ∷ ys) ≡ insert (y ∷ ys) (below x (y ∷ ys)) x
absent_cons true x y d ys is rest apart =
    let at = below_more x y ys is in
    let other = subst (λ k. k < length (y ∷ ys) → get_or (y ∷ ys) k d ≢ x) at apart in
    rw (put_behind x y ys is, at) (ap (λ zs. y ∷ zs) (rest (λ low. other (omega (arith, low)))))
absent_cons false x y d ys is rest apart =
    let at = below_none x y ys is in
    let other = subst (λ k. k < length (y ∷ ys) → get_or (y ∷ ys) k d ≢ x) at apart in
    rw (put_before x y ys is (ne_eqb x y (λ e. other (omega arith) (sym e))), at) refl

-- a number that is not there
pub put_absent : (x d : ℕ) (xs : List ℕ) → (below x xs < length xs → get_or xs (below x xs) d ≢ x) → put_once x xs ≡ insert xs (below x xs) x
unfolding put_once
put_absent x d [] apart = refl
put_absent x d (y ∷ ys) apart = absent_cons (nat_lt y x) x y d ys refl (put_absent x d ys) apart
