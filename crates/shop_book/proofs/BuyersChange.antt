-- When the customers who bought an item lately are others than before, once an order comes and one may leave.
use Rattle.std.proofs.Common.{◌≡◌, ◌≢◌, ℕ, ◌||◌, ◌&&◌, Bool, true, false, List, [], ◌∷◌, ◌++◌, map, filter, Option, Some, None, refl, sym, ◌∙◌, ap}
use Rattle.std.specs.Prelude.{option_to_list}
use Rattle.std.proofs.lemmas.Bool.{eqb-true, eq-eqb}
use Rattle.shop_model.specs.lists.Related.{Sold, is_of, has_item, buyers_in}
use Rattle.shop_book.specs.Sales.{has_bought}
use Rattle.shop_book.proofs.Ascending.{by_test, true_false, is_among, ascending_among, ascending_same}
use Rattle.shop_book.proofs.WindowMoves.{Moves}

-- whether this order is the customer's, and of the item
abbrev is_by : ℕ → ℕ → Sold → Bool
is_by customer item o = is_of customer o && has_item item o

bought_cons : (customer item : ℕ) (o : Sold) (os : List Sold) → has_bought (o ∷ os) customer item ≡ (is_by customer item o || has_bought os customer item)
bought_cons customer item o os =
    by_test (is_of customer o)
    (λ (his : is_of customer o ≡ true). rw his refl)
    (λ (not : is_of customer o ≡ false). rw not refl)

or_none : (b : Bool) → b ≡ (b || false)
or_none true = refl
or_none false = refl

or_assoc : (a b c : Bool) → (a || (b || c)) ≡ ((a || b) || c)
or_assoc true b c = refl
or_assoc false b c = refl

bought_push : (customer item : ℕ) (os : List Sold) (o : Sold) → has_bought (os ++ o ∷ []) customer item ≡ (has_bought os customer item || is_by customer item o)
bought_push customer item [] o = bought_cons customer item o [] ∙ sym (or_none (is_by customer item o))
bought_push customer item (x ∷ os) o =
    bought_cons customer item x (os ++ o ∷ [])
    ∙ ap (λ b. is_by customer item x || b) (bought_push customer item os o)
    ∙ or_assoc (is_by customer item x) (has_bought os customer item) (is_by customer item o)
    ∙ ap (λ b. b || is_by customer item o) (sym (bought_cons customer item x os))

-- the buyers are those who have
among_buyers : (customer item : ℕ) (os : List Sold) → is_among customer (map (λ o. o.customer) (filter (has_item item) os)) ≡ has_bought os customer item
among_buyers customer item [] = refl
among_buyers customer item (o ∷ os) =
    by_test (has_item item o)
    (λ (has : has_item item o ≡ true).
    rw has (ap (λ b. is_of customer o || b) (among_buyers customer item os) ∙ ap (λ b. b || has_bought os customer item) (and_true (is_of customer o) ∙ ap (λ b. is_of customer o && b) (sym has)) ∙ sym (bought_cons customer item o os)))
    (λ (without : has_item item o ≡ false).
    rw without (among_buyers customer item os ∙ ap (λ b. b || has_bought os customer item) (and_false (is_of customer o) ∙ ap (λ b. is_of customer o && b) (sym without)) ∙ sym (bought_cons customer item o os)))
  where
    and_true : (b : Bool) → b ≡ (b && true)
    and_true true = refl
    and_true false = refl

    and_false : (b : Bool) → false ≡ (b && false)
    and_false true = refl
    and_false false = refl

buyers_among : (customer item : ℕ) (os : List Sold) → is_among customer (buyers_in os item) ≡ has_bought os customer item
buyers_among customer item os = ascending_among customer (map (λ o. o.customer) (filter (has_item item) os)) ∙ among_buyers customer item os

pub buyers_differ : (before after : List Sold) (customer item : ℕ) → has_bought before customer item ≢ has_bought after customer item → buyers_in after item ≢ buyers_in before item
buyers_differ before after customer item apart same =
    apart (sym (buyers_among customer item before) ∙ ap (is_among customer) (sym same) ∙ buyers_among customer item after)

buyers_same : (before after : List Sold) (item : ℕ) → ((customer : ℕ) → has_bought before customer item ≡ has_bought after customer item) → buyers_in after item ≡ buyers_in before item
buyers_same before after item same =
    ascending_same (map (λ o. o.customer) (filter (has_item item) after)) (map (λ o. o.customer) (filter (has_item item) before))
    (λ customer. among_buyers customer item after ∙ sym (same customer) ∙ sym (among_buyers customer item before))

module _ (before after : List Sold) (coming : Sold) where
  -- a customer who had not bought it, and now does
  pub buyer_comes : (gone : Option Sold) → Moves before after gone coming → (item : ℕ) → has_item item coming ≡ true → has_bought before coming.customer item ≡ false → buyers_in after item ≢ buyers_in before item
  buyer_comes gone moves item has without =
      let now : has_bought after coming.customer item ≡ true =
      ap (λ (os : List Sold). has_bought os coming.customer item) moves.after_is
      ∙ bought_push coming.customer item moves.rest coming
      ∙ ap (λ b. has_bought moves.rest coming.customer item || b) (ap (λ b. b && has_item item coming) (eq-eqb coming.customer coming.customer refl) ∙ has)
      ∙ or_true (has_bought moves.rest coming.customer item) in
      buyers_differ before after coming.customer item (λ same. true_false (has_bought after coming.customer item) now (sym same ∙ without))
    where
      or_true : (b : Bool) → (b || true) ≡ true
      or_true true = refl
      or_true false = refl

  -- a customer who had bought it, and no longer counts
  pub buyer_leaves : (gone : Sold) → Moves before after (Some gone) coming → (item : ℕ) → has_item item gone ≡ true → has_bought after gone.customer item ≡ false → buyers_in after item ≢ buyers_in before item
  buyer_leaves gone moves item has without =
      let was : has_bought before gone.customer item ≡ true =
      ap (λ (os : List Sold). has_bought os gone.customer item) moves.before_is
      ∙ bought_cons gone.customer item gone moves.rest
      ∙ ap (λ b. b || has_bought moves.rest gone.customer item) (ap (λ b. b && has_item item gone) (eq-eqb gone.customer gone.customer refl) ∙ has) in
      buyers_differ before after gone.customer item (λ same. true_false (has_bought before gone.customer item) was (same ∙ without))

  -- neither
  pub buyers_stay : (gone : Option Sold) → Moves before after gone coming → (item : ℕ) → (has_item item coming ≡ true → has_bought before coming.customer item ≡ true)
      → ((left : Sold) → gone ≡ Some left → has_item item left ≡ true → has_bought after left.customer item ≡ true) → buyers_in after item ≡ buyers_in before item
  buyers_stay gone moves item comes leaves = buyers_same before after item (λ customer. same customer gone refl)
    where
      and_first : (a b : Bool) → (a && b) ≡ true → a ≡ true
      and_first true b is = refl
      and_first false b is = is

      and_second : (a b : Bool) → (a && b) ≡ true → b ≡ true
      and_second true b is = is
      and_second false b is = true_false false is refl

      -- whose order it is, and of the item
      mine : (customer : ℕ) (o : Sold) → is_by customer item o ≡ true → (o.customer ≡ customer) × (has_item item o ≡ true)
      mine customer o is = (eqb-true o.customer customer (and_first (is_of customer o) (has_item item o) is), and_second (is_of customer o) (has_item item o) is)

      was_in : Option Sold → ℕ → Bool
      was_in None customer = false
      was_in (Some left) customer = is_by customer item left

      was_is : (customer : ℕ) (left : Option Sold) → gone ≡ left → has_bought before customer item ≡ (was_in left customer || has_bought moves.rest customer item)
      was_is customer None is = ap (λ (os : List Sold). has_bought os customer item) (moves.before_is ∙ ap (λ (o : Option Sold). option_to_list o ++ moves.rest) is)
      was_is customer (Some left) is = ap (λ (os : List Sold). has_bought os customer item) (moves.before_is ∙ ap (λ (o : Option Sold). option_to_list o ++ moves.rest) is) ∙ bought_cons customer item left moves.rest

      now_is : (customer : ℕ) → has_bought after customer item ≡ (has_bought moves.rest customer item || is_by customer item coming)
      now_is customer = ap (λ (os : List Sold). has_bought os customer item) moves.after_is ∙ bought_push customer item moves.rest coming

      -- what an order that leaves was, one that comes is
      forth : (customer : ℕ) (left : Option Sold) → gone ≡ left → has_bought moves.rest customer item ≡ false → was_in left customer ≡ true → is_by customer item coming ≡ true
      forth customer None is none was = true_false false was refl
      forth customer (Some left) is none was =
          let his = mine customer left was in
          sym (ap (λ b. b || is_by customer item coming) none) ∙ sym (now_is customer) ∙ ap (λ c. has_bought after c item) (sym his.0) ∙ leaves left is his.1

      back : (customer : ℕ) (left : Option Sold) → gone ≡ left → has_bought moves.rest customer item ≡ false → is_by customer item coming ≡ true → was_in left customer ≡ true
      back customer left is none now =
          let his = mine customer coming now in
          or_first (was_in left customer) (has_bought moves.rest customer item) none (sym (was_is customer left is) ∙ ap (λ c. has_bought before c item) (sym his.0) ∙ comes his.1)
        where
          or_first : (a b : Bool) → b ≡ false → (a || b) ≡ true → a ≡ true
          or_first true b not is = refl
          or_first false b not is = true_false b is not

      same : (customer : ℕ) (left : Option Sold) → gone ≡ left → has_bought before customer item ≡ has_bought after customer item
      same customer left is =
          was_is customer left is
          ∙ by_test (has_bought moves.rest customer item)
          (λ (has : has_bought moves.rest customer item ≡ true). rw has (or_true (was_in left customer)))
          (λ (none : has_bought moves.rest customer item ≡ false).
          by_test (was_in left customer)
          (λ (was : was_in left customer ≡ true). rw (was, none) (sym (forth customer left is none was)))
          (λ (not : was_in left customer ≡ false).
          by_test (is_by customer item coming)
          (λ (now : is_by customer item coming ≡ true). true_false (was_in left customer) (back customer left is none now) not)
          (λ (no : is_by customer item coming ≡ false). rw (not, none) (sym no))))
          ∙ sym (now_is customer)
        where
          or_true : (b : Bool) → (b || true) ≡ true
          or_true true = refl
          or_true false = refl
