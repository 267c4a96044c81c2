-- What elements in order are.
use Rattle.std.specs.Prelude.{◌≡◌, ℕ, Bool, true, false, List, if◌then◌else◌}
use Rattle.std.specs.Cmp.{IsTotalOrder}
use Rattle.std.specs.List.Sorted.{IsSorted, IsPermutation, IsPartitionPoint}
use Rattle.std.specs.Ordering.{is_gt}
use Rattle.std.specs.declared.cmp.Ordering.{Ordering}
use Rattle.std.specs.declared.cmp.Ordering.TheVariants.{Equal}
use Rattle.shop_model.specs.lists.Rankings.{put_among, in_order}

-- these elements in order are sorted, and are these elements
pub record IsInOrder {A : Type 0} (order : A → A → Ordering) (xs : List A) : Type 0 where
  pub sorted : IsSorted order (in_order order xs)
  pub same : IsPermutation xs (in_order order xs)

-- a total order by which no two elements tie
pub record IsStrict {A : Type 0} (order : A → A → Ordering) : Type 0 where
  pub total : IsTotalOrder order
  pub apart : (x y : A) → order x y ≡ Equal → x ≡ y

-- so many of these, and they come first, are those that this element comes after
abbrev pub Passes : {A : Type 0} → (A → A → Ordering) → A → List A → ℕ → Type 0
Passes order x xs i = IsPartitionPoint (λ y. is_gt (order x y) ≡ true) (λ y. is_gt (order x y) ≡ false) xs i

-- the list is that of others among which this element was put
pub record IsAmong {A : Type 0} (order : A → A → Ordering) (x : A) (xs : List A) : Type 0 where
  pub others : List A
  pub is : xs ≡ put_among order x others

-- an element put among others in order, where it is shown
abbrev pub put_shown : {A : Type 0} → (A → Bool) → (A → A → Ordering) → A → List A → List A
put_shown shown order x xs = if shown x then put_among order x xs else xs

-- these are others in order, among which this element was put if it is shown
pub record StandsIn {A : Type 0} (shown : A → Bool) (order : A → A → Ordering) (x : A) (xs : List A) : Type 0 where
  pub others : List A
  pub is : xs ≡ put_shown shown order x (in_order order others)
