-- The units of an item in lines, and the versions of those who buy as they are raised one by one.
use Rattle.std.proofs.Common.{◌≡◌, ◌≢◌, ℕ, ◌+◌, ◌<◌, ◌==◌, ◌⊎◌, inl, inr, ⊎_elim, Bool, true, false, cond, List, [], ◌∷◌, ◌++◌, length, map, take, get_or, Contains, Some, refl, sym, ◌∙◌, ap, subst, arith}
use Rattle.std.specs.Prelude.{filter, sum_by}
use Rattle.std.proofs.lemmas.Bool.{eqb-true, eqb-false, eq-eqb, ne_eqb}
use Rattle.std.proofs.lemmas.List.Elements.{filter_more, Contains-push, Contains-push_cases, Contains-append_left, Contains-append_right}
use Rattle.std.proofs.lemmas.List.Sums.{sum_by-append, sum_by-cons}
use Rattle.shop_model.specs.rows.Rows.{LineRow, OrderRow}
use Rattle.shop_model.specs.rows.Sound.{units_in}
use Rattle.shop_history.specs.declared.keys.Key.{Key}
use Rattle.shop_history.specs.declared.keys.Key.TheVariants as key
use Rattle.shop_history.specs.MayChange.{items_of}
use Rattle.shop_book.specs.Sales.{RaisesBuyers, HaveSameUnits, BuysElse, RaisesBought}
use Rattle.shop_book.proofs.Ascending.{by_test, true_false}
use Rattle.shop_book.proofs.WatchingLemmas.{key_cases}

-- the units of one line more
module _ (item : ℕ) (lines : List LineRow) (i : ℕ) (line : LineRow) (within : i < length lines) (is : line ≡ get_or lines i line) where
  units_more : (here : Bool) → (line.item == item) ≡ here → units_in item (take (i + 1) lines) ≡ units_in item (take i lines) + sum_by (λ l. l.quantity) (cond here (line ∷ []) [])
  units_more here test =
      ap (sum_by (λ (l : LineRow). l.quantity))
      (filter_more (λ (l : LineRow). l.item == item) lines i line within ∙ ap (λ (l : LineRow). filter (λ r. r.item == item) (take i lines) ++ cond (l.item == item) (l ∷ []) []) (sym is))
      ∙ sum_by-append (λ (l : LineRow). l.quantity) (filter (λ (l : LineRow). l.item == item) (take i lines)) (cond (line.item == item) (line ∷ []) [])
      ∙ ap (λ b. units_in item (take i lines) + sum_by (λ (l : LineRow). l.quantity) (cond b (line ∷ []) [])) test

  pub units_of_it : line.item ≡ item → units_in item (take (i + 1) lines) ≡ units_in item (take i lines) + line.quantity
  units_of_it same = units_more true (eq-eqb line.item item same) ∙ ap (λ n. units_in item (take i lines) + n) (omega (arith, sum_by-cons (λ (l : LineRow). l.quantity) line []))

  pub units_of_other : line.item ≢ item → units_in item (take (i + 1) lines) ≡ units_in item (take i lines)
  units_of_other apart = units_more false (ne_eqb line.item item apart) ∙ omega arith

-- an item is among those of the lines, or they have none of it
there_or_none : (item : ℕ) (lines : List LineRow) → Contains (map (λ l. l.item) lines) item ⊎ (units_in item lines ≡ 0)
there_or_none item [] = inr refl
there_or_none item (line ∷ lines) =
    by_test (line.item == item)
    (λ (here : (line.item == item) ≡ true).
    inl (subst (Contains (map (λ (l : LineRow). l.item) (line ∷ lines))) (eqb-true line.item item here) (0, omega arith, refl)))
    (λ (apart : (line.item == item) ≡ false).
    ⊎_elim
    (λ (there : Contains (map (λ (l : LineRow). l.item) lines) item). inl (Contains-append_right (line.item ∷ []) (map (λ (l : LineRow). l.item) lines) item there))
    (λ (none : units_in item lines ≡ 0).
    inr (ap (λ b. sum_by (λ (l : LineRow). l.quantity) (cond b (line ∷ filter (λ l. l.item == item) lines) (filter (λ l. l.item == item) lines))) apart ∙ none))
    (there_or_none item lines))

-- orders that have as many units of the items of each have as many of all
pub same_units : (one other : OrderRow) → ((item : ℕ) → Contains (items_of one) item → units_in item one.lines ≡ units_in item other.lines)
    → ((item : ℕ) → Contains (items_of other) item → units_in item other.lines ≡ units_in item one.lines) → HaveSameUnits one other
same_units one other forth back = λ item.
    ⊎_elim
    (λ (there : Contains (items_of one) item). forth item there)
    (λ (none : units_in item one.lines ≡ 0).
    ⊎_elim
    (λ (there : Contains (items_of other) item). sym (back item there))
    (λ (other_none : units_in item other.lines ≡ 0). none ∙ sym other_none)
    (there_or_none item other.lines))
    (there_or_none item one.lines)

-- the buyers of one item more
module _ (has : ℕ → Bool) (items : List ℕ) (number : ℕ) (old before : Key → ℕ) (item : ℕ) (raises : RaisesBuyers has items number old before) where
  pub buyers_raised : (after : Key → ℕ) → has item ≡ false → after (key.Buyers item) ≡ number → ((k : Key) → k ≢ key.Buyers item → after k ≡ before k)
      → RaisesBuyers has (items ++ item ∷ []) number old after
  buyers_raised after without here others = record {
    each = λ k.
        ⊎_elim
        (λ (is : k ≡ key.Buyers item). inr (item, is, Contains-push items item, without, ap after is ∙ here))
        (λ (apart : k ≢ key.Buyers item).
        ⊎_elim
        (λ (same : before k ≡ old k). inl (others k apart ∙ same))
        (λ (rose : (other : ℕ) × (k ≡ key.Buyers other) × Contains items other × (has other ≡ false) × (before k ≡ number)).
        inr (rose.0, rose.1, Contains-append_left items (item ∷ []) rose.0 rose.2, rose.3, others k apart ∙ rose.4))
        (raises.each k))
        (key_cases k (key.Buyers item));
    all = λ other there other_without.
        by_test (other == item)
        (λ (is_here : (other == item) ≡ true). ap (λ n. after (key.Buyers n)) (eqb-true other item is_here) ∙ here)
        (λ (not_here : (other == item) ≡ false).
        let apart : other ≢ item = eqb-false other item not_here in
        ⊎_elim
        (λ (seen : Contains items other). others (key.Buyers other) (λ same. apart cc) ∙ raises.all other seen other_without)
        (λ (same : item ≡ other). absurd (apart (sym same)))
        (Contains-push_cases items item other there));
  }

  pub buyers_left : has item ≡ true → RaisesBuyers has (items ++ item ∷ []) number old before
  buyers_left has_it = record {
    each = λ k.
        ⊎_elim
        (λ (same : before k ≡ old k). inl same)
        (λ (rose : (other : ℕ) × (k ≡ key.Buyers other) × Contains items other × (has other ≡ false) × (before k ≡ number)).
        inr (rose.0, rose.1, Contains-append_left items (item ∷ []) rose.0 rose.2, rose.3, rose.4))
        (raises.each k);
    all = λ other there without.
        ⊎_elim
        (λ (seen : Contains items other). raises.all other seen without)
        (λ (same : item ≡ other). true_false (has other) (sym (ap has same) ∙ has_it) without)
        (Contains-push_cases items item other there);
  }

pub buyers_none : (has : ℕ → Bool) (number : ℕ) (old : Key → ℕ) → RaisesBuyers has [] number old old
buyers_none has number old = record { each = λ k. inl refl; all = λ item there without. absurd (omega (arith, there.1)) }

-- what is raised of the customer of an order that comes, and then of the one of an order that is forgotten
pub both_raised : (coming gone : OrderRow) (number : ℕ) (old mid new : Key → ℕ) → (gone.customer ≡ coming.customer → HaveSameUnits coming gone → ⊥)
    → mid (key.Bought coming.customer) ≡ number → ((k : Key) → k ≢ key.Bought coming.customer → mid k ≡ old k)
    → new (key.Bought gone.customer) ≡ number → ((k : Key) → k ≢ key.Bought gone.customer → new k ≡ mid k)
    → RaisesBought (BuysElse coming (Some gone)) number old new
both_raised coming gone number old mid new differ coming_rose coming_others gone_rose gone_others = record {
  each = λ k.
      ⊎_elim
      (λ (is : k ≡ key.Bought gone.customer). inr (gone.customer, is, (inr refl, differ), ap new is ∙ gone_rose))
      (λ (apart : k ≢ key.Bought gone.customer).
      ⊎_elim
      (λ (is : k ≡ key.Bought coming.customer). inr (coming.customer, is, (inl refl, differ), gone_others k apart ∙ ap mid is ∙ coming_rose))
      (λ (other : k ≢ key.Bought coming.customer). inl (gone_others k apart ∙ coming_others k other))
      (key_cases k (key.Bought coming.customer)))
      (key_cases k (key.Bought gone.customer));
  all = λ customer buys.
      ⊎_elim
      (λ (is : customer ≡ coming.customer). ap (λ n. new (key.Bought n)) is ∙ coming_now)
      (λ (is : customer ≡ gone.customer). ap (λ n. new (key.Bought n)) is ∙ gone_rose)
      buys.0;
}
  where
    coming_now : new (key.Bought coming.customer) ≡ number
    coming_now =
        ⊎_elim
        (λ (is : key.Bought coming.customer ≡ key.Bought gone.customer). ap new is ∙ gone_rose)
        (λ (apart : key.Bought coming.customer ≢ key.Bought gone.customer). gone_others (key.Bought coming.customer) apart ∙ coming_rose)
        (key_cases (key.Bought coming.customer) (key.Bought gone.customer))
