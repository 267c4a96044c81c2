-- The latest orders, where one more comes: none leaves, or the first one does.
use Rattle.std.proofs.Common.{◌≡◌, ℕ, zero, suc, ◌+◌, ◌-◌, ◌<◌, ◌≤◌, Bool, true, false, ltb, List, [], ◌∷◌, ◌++◌, length, map, filter, drop, sum_by, slice_get, get_or, Option, Some, None, Contains, refl, sym, ◌∙◌, ap, arith, append-nil, length-append, ◌⊎◌, inl, inr, ⊎_elim}
use Rattle.std.specs.Prelude.{option_to_list}
use Rattle.std.proofs.lemmas.Bool.{cases_lt, cond-true, cond-false}
use Rattle.std.proofs.lemmas.List.Elements.{filter-append, Contains-append_left, Contains-append_right}
use Rattle.std.proofs.lemmas.List.Sums.{sum_by-append}
use Rattle.std.proofs.lemmas.Option.{slice_get-get_or}
use Rattle.std.proofs.lemmas.List.{drop-append-le, map-append}
use Rattle.shop_model.specs.lists.Related.{last}
use Rattle.shop_model.specs.rows.Rows.{OrderRow}
use Rattle.shop_history.specs.MayChange.{leaving, of_left}

pub drop_more : {A : Type 0} (n : ℕ) (xs : List A) (x : A) → slice_get xs n ≡ Some x → drop n xs ≡ x ∷ drop (suc n) xs
drop_more zero [] x is = absurd cc
drop_more zero (y ∷ ys) x is = let same : y ≡ x = cc in ap (λ z. z ∷ ys) same
drop_more (suc n) [] x is = absurd cc
drop_more (suc n) (y ∷ ys) x is = drop_more n ys x is

-- none leaves
pub record Stays (most : ℕ) (orders : List OrderRow) (order : OrderRow) : Type 0 where
  pub none : leaving most orders ≡ None
  pub now : last most (orders ++ order ∷ []) ≡ last most orders ++ order ∷ []

-- the first leaves
pub record Leaves (most : ℕ) (orders : List OrderRow) (order : OrderRow) : Type 0 where
  pub gone : OrderRow
  pub rest : List OrderRow
  pub leaves : leaving most orders ≡ Some gone
  pub before : last most orders ≡ gone ∷ rest
  pub now : last most (orders ++ order ∷ []) ≡ rest ++ order ∷ []

lt_ltb : (a b : ℕ) → a < b → ltb a b ≡ true
lt_ltb a b lt = grind (arith, lt)

le_ltb : (a b : ℕ) → b ≤ a → ltb a b ≡ false
le_ltb a b le = grind (arith, le)

pub window_moves : (most : ℕ) (orders : List OrderRow) (order : OrderRow) → 1 ≤ most → Stays most orders order ⊎ Leaves most orders order
window_moves most orders order some =
    ⊎_elim
    (λ (few : length orders < most).
    let was : length orders - most ≡ 0 = omega (arith, few) in
    let is : length (orders ++ order ∷ []) - most ≡ 0 = omega (arith, few, length-append orders (order ∷ [])) in
    inl (record {
      none = cond-true (ltb (length orders) most) None (slice_get orders (length orders - most)) (lt_ltb (length orders) most few);
      now = ap (λ n. drop n (orders ++ order ∷ [])) is ∙ ap (λ n. drop n orders ++ order ∷ []) (sym was);
    }))
    (λ (many : most ≤ length orders).
    let n : ℕ = length orders - most in
    let gone : OrderRow = get_or orders n order in
    let at : slice_get orders n ≡ Some gone = slice_get-get_or orders n order (omega (arith, many, some)) in
    let is : length (orders ++ order ∷ []) - most ≡ suc n = omega (arith, many, length-append orders (order ∷ [])) in
    inr (record {
      gone = gone;
      rest = drop (suc n) orders;
      leaves = cond-false (ltb (length orders) most) None (slice_get orders n) (le_ltb (length orders) most many) ∙ at;
      before = drop_more n orders gone at;
      now = ap (λ m. drop m (orders ++ order ∷ [])) is ∙ drop-append-le (suc n) orders (order ∷ []) (omega (arith, many, some));
    }))
    (cases_lt (length orders) most)

-- the law: what leaves and then the window after is the window before and then what comes
pub window_law : (most : ℕ) (orders : List OrderRow) (order : OrderRow) → 1 ≤ most → option_to_list (leaving most orders) ++ last most (orders ++ order ∷ []) ≡ last most orders ++ order ∷ []
window_law most orders order some =
    ⊎_elim
    (λ (is : Stays most orders order). ap (λ o. option_to_list o ++ last most (orders ++ order ∷ [])) is.none ∙ is.now)
    (λ (is : Leaves most orders order).
    ap (λ o. option_to_list o ++ last most (orders ++ order ∷ [])) is.leaves
    ∙ ap (λ os. is.gone ∷ os) is.now
    ∙ ap (λ os. os ++ order ∷ []) (sym is.before))
    (window_moves most orders order some)

-- what is made of orders part by part: sums of units, and those that pass a test

pub record IsMade {M : Type 0} (none : M) (both : M → M → M) (made : List OrderRow → M) : Type 0 where
  pub of_none : made [] ≡ none
  pub of_both : (xs ys : List OrderRow) → made (xs ++ ys) ≡ both (made xs) (made ys)
  pub before : (x : M) → both none x ≡ x
  pub behind : (x : M) → both x none ≡ x

pub sums : (units : OrderRow → ℕ) → IsMade 0 (λ a b. a + b) (sum_by units)
sums units = record { of_none = refl; of_both = λ xs ys. sum_by-append units xs ys; before = λ x. omega arith; behind = λ x. omega arith }

pub passed : {B : Type 0} (f : OrderRow → B) (p : B → Bool) → IsMade [] (λ (xs ys : List B). xs ++ ys) (λ os. filter p (map f os))
passed f p = record { of_none = refl; of_both = λ xs ys. ap (filter p) (map-append f xs ys) ∙ filter-append p (map f xs) (map f ys); before = λ xs. refl; behind = λ xs. append-nil xs }

-- values that are made of the window, and names for what an order may change: an order has this name, or no share in any
module _ {I M A : Type 0} (none : M) (both : M → M → M) (made : I → List OrderRow → M) (is_made : (i : I) → IsMade none both (made i))
    (names : OrderRow → List A) (name : A) (silent : (o : OrderRow) → Contains (names o) name ⊎ ((i : I) → made i (o ∷ []) ≡ none)) where
  -- they stay, unless the order that comes or the one that leaves has the name
  pub window_frame : (most : ℕ) (orders : List OrderRow) (order : OrderRow) → 1 ≤ most
      → Contains (names order ++ of_left names (leaving most orders)) name ⊎ ((i : I) → made i (last most (orders ++ order ∷ [])) ≡ made i (last most orders))
  window_frame most orders order some =
      ⊎_elim
      (λ comes. inl (Contains-append_left (names order) (of_left names (leaving most orders)) name comes))
      (λ none_comes. ⊎_elim
      (λ leaves. inl (Contains-append_right (names order) (of_left names (leaving most orders)) name leaves))
      (λ none_leaves. inr (λ i.
      let gone : List OrderRow = option_to_list (leaving most orders) in
      let before : List OrderRow = last most orders in
      let after : List OrderRow = last most (orders ++ order ∷ []) in
      let m : IsMade none both (made i) = is_made i in
      sym (m.before (made i after)) ∙ ap (λ x. both x (made i after)) (sym (none_leaves i)) ∙ sym (m.of_both gone after) ∙ ap (made i) (window_law most orders order some)
      ∙ m.of_both before (order ∷ []) ∙ ap (both (made i before)) (none_comes i) ∙ m.behind (made i before)))
      (left_silent (leaving most orders)))
      (silent order)
    where
      left_silent : (o : Option OrderRow) → Contains (of_left names o) name ⊎ ((i : I) → made i (option_to_list o) ≡ none)
      left_silent None = inr (λ i. (is_made i).of_none)
      left_silent (Some o) = silent o
