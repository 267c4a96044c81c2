-- Elements that are put among others, and taken out again.
use Rattle.std.proofs.Common.{◌≡◌, ℕ, zero, suc, ◌<◌, ◌≤◌, Bool, true, false, cond, List, [], ◌∷◌, length, get_or, refl, ap, arith}
use Rattle.std.specs.Cmp.{IsTotalOrder}
use Rattle.std.specs.List.{insert, remove}
use Rattle.std.specs.List.Sorted.{IsSorted, IsPartitionedBy}
use Rattle.std.specs.Ordering.{is_gt, is_lt}
use Rattle.std.specs.declared.cmp.Ordering.{Ordering}
use Rattle.std.proofs.lemmas.Cmp.{tied_itself}
use Rattle.std.proofs.lemmas.List.Sorted.{sorted_far, ranks_by}
use Rattle.shop_model.specs.lists.Rankings.{put_among}
use Rattle.shop_ranking.specs.Order.{IsStrict, put_shown, Passes}
use Rattle.shop_ranking.proofs.cited.Putting.{turned, above, put_swap}

shown_by : {A : Type 0} (order : A → A → Ordering) → IsStrict order → (b : Bool) (x y : A) (zs : List A)
    → put_among order x (cond b (put_among order y zs) zs) ≡ cond b (put_among order y (put_among order x zs)) (put_among order x zs)
shown_by order strict true x y zs = put_swap order strict x y zs
shown_by order strict false x y zs = refl

pub put_shown_swap : {A : Type 0} (shown : A → Bool) (order : A → A → Ordering) → IsStrict order → (x y : A) (zs : List A)
    → put_among order x (put_shown shown order y zs) ≡ put_shown shown order y (put_among order x zs)
put_shown_swap shown order strict x y zs = shown_by order strict (shown y) x y zs

-- an element comes after those before one that it comes after
pub parted : {A : Type 0} (order : A → A → Ordering) → IsTotalOrder order → (x : A) (xs : List A)
    → IsSorted order xs → IsPartitionedBy (λ y. is_gt (order x y)) xs
parted {A} order total x xs sorted = λ i j d before within after.
    let low = sorted_far (λ (a b : A). is_lt (order a b)) (ranks_by total (λ (a : A). a)) xs sorted i j d before within in
    above order total x (get_or xs i d) (get_or xs j d) after
    (turned (order (get_or xs i d) (get_or xs j d)) (order (get_or xs j d) (get_or xs i d)) (total.antisymm (get_or xs i d) (get_or xs j d)) low)

passes_tail : {A : Type 0} (order : A → A → Ordering) (x y : A) (ys : List A) (i : ℕ)
    → Passes order x (y ∷ ys) (suc i) → Passes order x ys i
passes_tail order x y ys i point = (λ k d low high. point.0 (suc k) d (omega arith) (omega arith), λ k d low high. point.1 (suc k) d (omega arith) (omega arith))

-- there it stands once it is put among them
pub place_put : {A : Type 0} (order : A → A → Ordering) (x : A) (xs : List A) (i : ℕ)
    → i ≤ length xs → Passes order x xs i → insert xs i x ≡ put_among order x xs
unfolding put_among
place_put order x [] zero within point = refl
place_put order x [] (suc i) within point = absurd (omega arith)
place_put order x (y ∷ ys) zero within point = rw (point.1 0 y (omega arith) (omega arith)) refl
place_put order x (y ∷ ys) (suc i) within point =
    rw (point.0 0 y (omega arith) (omega arith))
    (ap (λ zs. y ∷ zs) (place_put order x ys i (omega arith) (passes_tail order x y ys i point)))

-- what stands at a place
pub record IsAt {A : Type 0} (x : A) (xs others : List A) (i : ℕ) : Type 0 where
  pub within : i < length xs
  pub here : (d : A) → get_or xs i d ≡ x
  pub rest : remove xs i ≡ others

at_first : {A : Type 0} (order : A → A → Ordering) → IsTotalOrder order → (x : A) (ys : List A) (i : ℕ)
    → Passes order x (x ∷ ys) i → IsAt x (x ∷ ys) ys i
at_first order total x ys zero point = record { within = omega arith; here = λ d. refl; rest = refl }
at_first order total x ys (suc i) point =
    let never : is_gt (order x x) ≡ true = point.0 0 x (omega arith) (omega arith) in
    let tied = tied_itself total x in absurd (cc (ap is_gt tied))

at_by : {A : Type 0} (order : A → A → Ordering) → IsTotalOrder order → (b : Bool) (x y : A) (ys : List A) (i : ℕ)
    → is_gt (order x y) ≡ b
    → ((j : ℕ) → Passes order x (put_among order x ys) j → IsAt x (put_among order x ys) ys j)
    → Passes order x (cond b (y ∷ put_among order x ys) (x ∷ y ∷ ys)) i
    → IsAt x (cond b (y ∷ put_among order x ys) (x ∷ y ∷ ys)) (y ∷ ys) i
at_by order total false x y ys i is rest point = at_first order total x (y ∷ ys) i point
at_by order total true x y ys zero is rest point =
    let never : is_gt (order x y) ≡ false = point.1 0 y (omega arith) (omega arith) in absurd (cc)
at_by order total true x y ys (suc i) is rest point =
    let at = rest i (passes_tail order x y (put_among order x ys) i point) in
    record { within = omega (arith, at.within); here = at.here; rest = ap (λ zs. y ∷ zs) at.rest }

-- there it stands among them
place_taken : {A : Type 0} (order : A → A → Ordering) → IsTotalOrder order → (x : A) (others : List A) (i : ℕ)
    → Passes order x (put_among order x others) i → IsAt x (put_among order x others) others i
unfolding put_among
place_taken order total x [] i point = at_first order total x [] i point
place_taken order total x (y ∷ ys) i point =
    at_by order total (is_gt (order x y)) x y ys i refl (λ j p. place_taken order total x ys j p) point

pub taken : {A : Type 0} (order : A → A → Ordering) → IsTotalOrder order → (x : A) (xs others : List A) (i : ℕ)
    → xs ≡ put_among order x others → Passes order x xs i → IsAt x xs others i
taken order total x xs others i is point = rw is (place_taken order total x others i (rw is at point))
