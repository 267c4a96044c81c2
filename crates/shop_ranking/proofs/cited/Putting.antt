-- Elements that are put among others one after another.
use Rattle.std.proofs.Common.{◌≡◌, suc, Bool, true, false, cond, List, [], ◌∷◌, length, refl, sym, ap, ◌∙◌, arith}
use Rattle.std.specs.Cmp.{IsTotalOrder}
use Rattle.std.specs.Ordering.{is_gt, is_lt, ordering_reverse}
use Rattle.std.specs.declared.cmp.Ordering.{Ordering}
use Rattle.std.specs.declared.cmp.Ordering.TheVariants.{Less, Equal, Greater}
use Rattle.std.proofs.lemmas.Cmp.{upto}
use Rattle.shop_model.specs.lists.Rankings.{put_among, in_order}
use Rattle.shop_ranking.specs.Order.{IsStrict}

pub turned : (o p : Ordering) → o ≡ ordering_reverse p → is_lt p ≡ false → is_gt o ≡ false
turned o Less back late = cc
turned o Equal back late = rw back refl
turned o Greater back late = rw back refl

length_either : {A : Type 0} (b : Bool) (x y : A) (put ys : List A)
    → length put ≡ suc (length ys) → length (cond b (y ∷ put) (x ∷ y ∷ ys)) ≡ suc (suc (length ys))
length_either true x y put ys more = omega arith
length_either false x y put ys more = refl

-- one element more
pub length_put : {A : Type 0} (order : A → A → Ordering) (x : A) (xs : List A) → length (put_among order x xs) ≡ suc (length xs)
unfolding put_among
length_put order x [] = refl
length_put order x (y ∷ ys) = length_either (is_gt (order x y)) x y (put_among order x ys) ys (length_put order x ys)

pub length_in_order : {A : Type 0} (order : A → A → Ordering) (xs : List A) → length (in_order order xs) ≡ length xs
unfolding in_order
length_in_order order [] = refl
length_in_order order (x ∷ xs) = length_put order x (in_order order xs) ∙ ap suc (length_in_order order xs)

put_behind : {A : Type 0} (order : A → A → Ordering) (x y : A) (ys : List A)
    → is_gt (order x y) ≡ true → put_among order x (y ∷ ys) ≡ y ∷ put_among order x ys
unfolding put_among
put_behind order x y ys after = rw after refl

pub put_before : {A : Type 0} (order : A → A → Ordering) (x y : A) (ys : List A)
    → is_gt (order x y) ≡ false → put_among order x (y ∷ ys) ≡ x ∷ y ∷ ys
unfolding put_among
put_before order x y ys before = rw before refl

-- where two elements come before all others, the one that is put first makes no difference
first_by : {A : Type 0} (order : A → A → Ordering) → IsStrict order → (x y : A) (zs : List A) (o : Ordering)
    → order x y ≡ o → order y x ≡ ordering_reverse o
    → put_among order x zs ≡ x ∷ zs → put_among order y zs ≡ y ∷ zs
    → put_among order x (y ∷ zs) ≡ put_among order y (x ∷ zs)
unfolding put_among
first_by order strict x y zs Less is back left right = rw (is, back, right) refl
first_by order strict x y zs Equal is back left right = rw (is, back, strict.apart x y is) refl
first_by order strict x y zs Greater is back left right = rw (is, back, left) refl

first : {A : Type 0} (order : A → A → Ordering) → IsStrict order → (x y : A) (zs : List A)
    → put_among order x zs ≡ x ∷ zs → put_among order y zs ≡ y ∷ zs
    → put_among order x (y ∷ zs) ≡ put_among order y (x ∷ zs)
first order strict x y zs = first_by order strict x y zs (order x y) refl (strict.total.antisymm y x)

above_by : {A : Type 0} (order : A → A → Ordering) → IsTotalOrder order → (b : Bool) (x y z : A)
    → is_gt (order x y) ≡ b → is_gt (order x z) ≡ true → is_gt (order y z) ≡ false → b ≡ true
above_by order total true x y z is high low = refl
above_by order total false x y z is high low = let never = upto total x y z is low in absurd (cc)

-- what comes after z comes after what does not
pub above : {A : Type 0} (order : A → A → Ordering) → IsTotalOrder order → (x y z : A)
    → is_gt (order x z) ≡ true → is_gt (order y z) ≡ false → is_gt (order x y) ≡ true
above order total x y z high low = above_by order total (is_gt (order x y)) x y z refl high low

one_passes : {A : Type 0} (order : A → A → Ordering) → IsTotalOrder order → (x y z : A) (zs : List A)
    → is_gt (order x z) ≡ true → is_gt (order y z) ≡ false
    → put_among order x (put_among order y (z ∷ zs)) ≡ put_among order y (put_among order x (z ∷ zs))
one_passes order total x y z zs high low =
    ap (put_among order x) (put_before order y z zs low)
    ∙ put_behind order x y (z ∷ zs) (above order total x y z high low)
    ∙ ap (λ ws. y ∷ ws) (put_behind order x z zs high)
    ∙ sym (ap (put_among order y) (put_behind order x z zs high) ∙ put_before order y z (put_among order x zs) low)

swapped_by : {A : Type 0} (order : A → A → Ordering) → IsStrict order → (b c : Bool) (x y z : A) (zs : List A)
    → is_gt (order x z) ≡ b → is_gt (order y z) ≡ c
    → put_among order x (put_among order y zs) ≡ put_among order y (put_among order x zs)
    → put_among order x (put_among order y (z ∷ zs)) ≡ put_among order y (put_among order x (z ∷ zs))
swapped_by order strict true true x y z zs left right rest =
    ap (put_among order x) (put_behind order y z zs right) ∙ put_behind order x z (put_among order y zs) left
    ∙ ap (λ ws. z ∷ ws) rest
    ∙ sym (ap (put_among order y) (put_behind order x z zs left) ∙ put_behind order y z (put_among order x zs) right)
swapped_by order strict true false x y z zs left right rest = one_passes order strict.total x y z zs left right
swapped_by order strict false true x y z zs left right rest = sym (one_passes order strict.total y x z zs right left)
swapped_by order strict false false x y z zs left right rest =
    let one = put_before order x z zs left in
    let other = put_before order y z zs right in
    ap (put_among order x) other ∙ first order strict x y (z ∷ zs) one other ∙ sym (ap (put_among order y) one)

-- two elements may be put in either order
pub put_swap : {A : Type 0} (order : A → A → Ordering) → IsStrict order → (x y : A) (zs : List A)
    → put_among order x (put_among order y zs) ≡ put_among order y (put_among order x zs)
unfolding put_among
put_swap order strict x y [] = first order strict x y [] refl refl
put_swap order strict x y (z ∷ zs) =
    swapped_by order strict (is_gt (order x z)) (is_gt (order y z)) x y z zs refl refl (put_swap order strict x y zs)
