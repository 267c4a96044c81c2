-- The chain of a customer's orders goes on where an order is added, and where the oldest leaves.
use Rattle.std.proofs.Common.{◌≡◌, ◌≢◌, ℕ, suc, ◌+◌, ◌-◌, ◌%◌, ◌^◌, ◌<◌, ◌≤◌, ◌==◌, ◌⊎◌, ⊎_elim, inl, inr, Bool, true, false, List, [], ◌∷◌, ◌++◌, length, length-append, get_or, refl, sym, ap, ◌∙◌, arith, Some, None, IfSome, cond}
use Rattle.std.specs.declared.option.Option.{Option}
use Rattle.std.proofs.Math.Nat.{eq-or-lt_of_le}
use Rattle.std.proofs.Math.Seq.{get_or-append_seam}
use Rattle.std.proofs.lemmas.Bool.{eqb-true, eqb-false}
use Rattle.std.proofs.lemmas.List.{get_or_append_left}
use Rattle.shop_window.specs.Chains.{Entry, no_entry, customer_at, NoneIn, IsLinked, AreLinked, IsNewest, left_from, left_of, IsChain}

-- one order more

entry_left : (xs : List Entry) (x : Entry) (j : ℕ) → j < length xs → get_or (xs ++ x ∷ []) j no_entry ≡ get_or xs j no_entry
entry_left xs x j within = get_or_append_left xs (x ∷ []) no_entry j within

entry_last : (xs : List Entry) (x : Entry) → get_or (xs ++ x ∷ []) (length xs) no_entry ≡ x
entry_last xs x = get_or-append_seam xs x [] no_entry

customer_left : (xs : List Entry) (x : Entry) (j : ℕ) → j < length xs → customer_at (xs ++ x ∷ []) j ≡ customer_at xs j
customer_left xs x j within = ap (λ (e : Entry). e.sold.customer) (entry_left xs x j within)

customer_last : (xs : List Entry) (x : Entry) → customer_at (xs ++ x ∷ []) (length xs) ≡ x.sold.customer
customer_last xs x = ap (λ (e : Entry). e.sold.customer) (entry_last xs x)

none_left : (xs : List Entry) (x : Entry) (customer start end : ℕ) → end ≤ length xs → NoneIn xs customer start end → NoneIn (xs ++ x ∷ []) customer start end
none_left xs x customer start end within none = λ j from to is.
    none j from to (sym (customer_left xs x j (omega (arith, within, to))) ∙ is)

linked_left : (xs : List Entry) (x : Entry) (i : ℕ) → i < length xs → IsLinked xs i → IsLinked (xs ++ x ∷ []) i
linked_left xs x i within linked =
    let back = (get_or xs i no_entry).back in
    record {
      some = rw (entry_left xs x i within) linked.some;
      same = rw (entry_left xs x i within) (λ near.
          customer_left xs x (i - back) (omega (arith, within)) ∙ linked.same near ∙ sym (customer_left xs x i within));
      none = rw (entry_left xs x i within, customer_left xs x i within)
          (none_left xs x (customer_at xs i) (suc i - back) i (omega (arith, within)) linked.none);
    }

linked_last : (xs : List Entry) (x : Entry) (left : ℕ) → IsNewest xs x.sold.customer left → x.back ≡ length xs + 1 - left → IsLinked (xs ++ x ∷ []) (length xs)
linked_last xs x left newest is =
    let from : suc (length xs) - x.back ≡ left = omega (arith, is, newest.within) in
    record {
      some = rw (entry_last xs x) (omega (arith, is, newest.within));
      same = rw (entry_last xs x) (λ near.
          let at : length xs - x.back ≡ left - 1 = omega (arith, is, near, newest.within) in
          ap (λ k. customer_at (xs ++ x ∷ []) k) at
          ∙ customer_left xs x (left - 1) (omega (arith, is, near, newest.within))
          ∙ newest.same (omega (arith, is, near)) ∙ sym (customer_last xs x));
      none = rw (entry_last xs x, customer_last xs x, from)
          (none_left xs x x.sold.customer left (length xs) (omega arith) newest.none);
    }

pub linked_push : (xs : List Entry) (x : Entry) (left : ℕ) → AreLinked xs → IsNewest xs x.sold.customer left → x.back ≡ length xs + 1 - left → AreLinked (xs ++ x ∷ [])
linked_push xs x left linked newest is = λ i within. by_place i (split i within)
  where
    split : (i : ℕ) → i < length (xs ++ x ∷ []) → (i < length xs) ⊎ (i ≡ length xs)
    split i within = ⊎_elim (λ last. inr (omega (arith, last))) (λ before. inl (omega (arith, before))) (eq-or-lt_of_le {n = suc i} {m = suc (length xs)} (omega (arith, within, length-append xs (x ∷ []))))

    by_place : (i : ℕ) → (i < length xs) ⊎ (i ≡ length xs) → IsLinked (xs ++ x ∷ []) i
    by_place i (inl before) = linked_left xs x i before (linked i before)
    by_place i (inr last) = rw last (linked_last xs x left newest is)

newest_last : (xs : List Entry) (x : Entry) → IsNewest (xs ++ x ∷ []) x.sold.customer (length xs + 1)
newest_last xs x =
    let at : length xs + 1 - 1 ≡ length xs = omega arith in
    record {
      within = omega (arith, length-append xs (x ∷ []));
      same = λ some. ap (λ k. customer_at (xs ++ x ∷ []) k) at ∙ customer_last xs x;
      none = λ j from to. absurd (omega (arith, from, to, length-append xs (x ∷ [])));
    }

newest_other : (xs : List Entry) (x : Entry) (customer left : ℕ) → x.sold.customer ≢ customer → IsNewest xs customer left → IsNewest (xs ++ x ∷ []) customer left
newest_other xs x customer left other newest = record {
  within = omega (arith, newest.within, length-append xs (x ∷ []));
  same = λ some. customer_left xs x (left - 1) (omega (arith, some, newest.within)) ∙ newest.same some;
  none = λ j from to. ⊎_elim
      (λ last is. other (sym (customer_last xs x) ∙ ap (λ k. customer_at (xs ++ x ∷ []) k) (sym last) ∙ is))
      (λ before. none_left xs x customer left (length xs) (omega arith) newest.none j from (omega (arith, before)))
      (eq-or-lt_of_le {n = j} {m = length xs} (omega (arith, to, length-append xs (x ∷ []))));
}

-- an order is found again by its number
left_from_number : (gone n : ℕ) → gone < 2 ^ 64 → n < 2 ^ 64 → left_from gone ((gone + n) % 2 ^ 64) ≡ n
left_from_number gone n gone_fits fits = omega arith

-- the numbers once one order more came
number_chosen : (b : Bool) (xs : List Entry) (x : Entry) (gone customer number : ℕ) (was : Option ℕ)
    → (x.sold.customer == customer) ≡ b → left_from gone number ≡ length xs + 1 → IsNewest xs customer (left_of gone was)
    → IsNewest (xs ++ x ∷ []) customer (left_of gone (cond b (Some number) was))
number_chosen true xs x gone customer number was is new newest =
    rw (new, ← (eqb-true x.sold.customer customer is)) (newest_last xs x)
number_chosen false xs x gone customer number was is new newest =
    newest_other xs x customer (left_of gone was) (eqb-false x.sold.customer customer is) newest

listed_chosen : (b : Bool) (gone number : ℕ) (was : Option ℕ) → 0 < left_from gone number
    → IfSome was (λ n. 0 < left_from gone n) → IfSome (cond b (Some number) was) (λ n. 0 < left_from gone n)
listed_chosen true gone number was some listed = some
listed_chosen false gone number was some listed = listed

-- one order more
pub chain_push : (xs : List Entry) (x : Entry) (before now : ℕ → Option ℕ) (gone : ℕ) → IsChain xs before gone
    → gone < 2 ^ 64 → length xs + 1 < 2 ^ 64 → x.back ≡ length xs + 1 - left_of gone (before x.sold.customer)
    → ((customer : ℕ) → now customer ≡ cond (x.sold.customer == customer) (Some ((gone + (length xs + 1)) % 2 ^ 64)) (before customer))
    → IsChain (xs ++ x ∷ []) now gone
chain_push xs x before now gone chain gone_fits fits is updates =
    let number = (gone + (length xs + 1)) % 2 ^ 64 in
    let new : left_from gone number ≡ length xs + 1 = left_from_number gone (length xs + 1) gone_fits fits in
    record {
      linked = linked_push xs x (left_of gone (before x.sold.customer)) chain.linked (chain.newest x.sold.customer) is;
      newest = λ customer. rw (updates customer)
          (number_chosen (x.sold.customer == customer) xs x gone customer number (before customer) refl new (chain.newest customer));
      listed = λ customer. rw (updates customer)
          (listed_chosen (x.sold.customer == customer) gone number (before customer) (omega (arith, new)) (chain.listed customer));
    }

-- one less

none_less : (x : Entry) (xs : List Entry) (customer start end : ℕ) → NoneIn (x ∷ xs) customer (suc start) (suc end) → NoneIn xs customer start end
none_less x xs customer start end none = λ j from to. none (suc j) (omega (arith, from)) (omega (arith, to))

linked_less : (x : Entry) (xs : List Entry) (i : ℕ) → IsLinked (x ∷ xs) (suc i) → IsLinked xs i
linked_less x xs i linked =
    let back = (get_or xs i no_entry).back in
    record {
      some = linked.some;
      same = λ near.
          let at : suc i - back ≡ suc (i - back) = omega (arith, near) in
          ap (λ k. customer_at (x ∷ xs) k) (sym at) ∙ linked.same (omega (arith, near));
      none = λ j from to. linked.none (suc j) (omega (arith, from)) (omega (arith, to));
    }

newest_less : (x : Entry) (xs : List Entry) (customer left : ℕ) → IsNewest (x ∷ xs) customer left → IsNewest xs customer (left - 1)
newest_less x xs customer left newest = record {
  within = omega (arith, newest.within);
  same = λ some.
      let at : left - 1 ≡ suc (left - 1 - 1) = omega (arith, some) in
      ap (λ k. customer_at (x ∷ xs) k) (sym at) ∙ newest.same (omega (arith, some));
  none = λ j from to. newest.none (suc j) (omega (arith, from)) (omega (arith, to));
}

left_less : (gone number : ℕ) → gone < 2 ^ 64 → 0 < left_from gone number → left_from ((gone + 1) % 2 ^ 64) number ≡ left_from gone number - 1
left_less gone number fits some = omega (arith, some)

-- only the oldest order is the last of one that is left
pub last_is_first : (x : Entry) (xs : List Entry) (customer left : ℕ) → IsNewest (x ∷ xs) customer left → left ≡ 1 → x.sold.customer ≡ customer
last_is_first x xs customer left newest one =
    let at : left - 1 ≡ 0 = omega (arith, one) in
    ap (λ k. customer_at (x ∷ xs) k) (sym at) ∙ newest.same (omega (arith, one))

-- the number of a customer's newest order once the oldest order left
abbrev pub IsLess : ℕ → Option ℕ → Option ℕ → Type 0
IsLess gone before now = (now ≡ before) × (left_of gone before ≢ 1) ⊎ (now ≡ None) × (left_of gone before ≡ 1)

number_less : (gone : ℕ) (before now : Option ℕ) → gone < 2 ^ 64 → IfSome before (λ n. 0 < left_from gone n) → IsLess gone before now
    → left_of ((gone + 1) % 2 ^ 64) now ≡ left_of gone before - 1
number_less gone None now fits some (inl same) = rw same.0 (omega arith)
number_less gone (Some n) now fits some (inl same) = rw same.0 (left_less gone n fits some)
number_less gone before now fits some (inr gone_now) = rw gone_now.0 (omega (arith, gone_now.1))

listed_less : (gone : ℕ) (before now : Option ℕ) → gone < 2 ^ 64 → IfSome before (λ n. 0 < left_from gone n) → IsLess gone before now
    → IfSome now (λ n. 0 < left_from ((gone + 1) % 2 ^ 64) n)
listed_less gone None now fits some (inl same) = rw same.0 tt
listed_less gone (Some n) now fits some (inl same) = rw same.0 (omega (arith, left_less gone n fits some, some, same.1))
listed_less gone before now fits some (inr gone_now) = rw gone_now.0 tt

-- one order less
pub chain_pop : (x : Entry) (xs : List Entry) (before now : ℕ → Option ℕ) (gone : ℕ) → IsChain (x ∷ xs) before gone
    → gone < 2 ^ 64 → ((customer : ℕ) → IsLess gone (before customer) (now customer))
    → IsChain xs now ((gone + 1) % 2 ^ 64)
chain_pop x xs before now gone chain fits less = record {
  linked = λ i within. linked_less x xs i (chain.linked (suc i) (omega (arith, within)));
  newest = λ customer.
      rw (number_less gone (before customer) (now customer) fits (chain.listed customer) (less customer))
      (newest_less x xs customer (left_of gone (before customer)) (chain.newest customer));
  listed = λ customer. listed_less gone (before customer) (now customer) fits (chain.listed customer) (less customer);
}

less_chosen : (b : Bool) (x : Entry) (xs : List Entry) (before now : Option ℕ) (gone customer : ℕ)
    → (x.sold.customer == customer) ≡ b → IsNewest (x ∷ xs) customer (left_of gone before) → (x.sold.customer ≡ customer → left_of gone before ≡ 1)
    → now ≡ cond b None before → IsLess gone before now
less_chosen true x xs before now gone customer is newest one updates = inr (updates, one (eqb-true x.sold.customer customer is))
less_chosen false x xs before now gone customer is newest one updates =
    inl (updates, λ first. eqb-false x.sold.customer customer is (last_is_first x xs customer (left_of gone before) newest first))

-- where the oldest order is its customer's newest, the customer is forgotten
pub less_removed : (x : Entry) (xs : List Entry) (before now : ℕ → Option ℕ) (gone : ℕ) → IsChain (x ∷ xs) before gone
    → left_of gone (before x.sold.customer) ≡ 1 → ((customer : ℕ) → now customer ≡ cond (x.sold.customer == customer) None (before customer))
    → (customer : ℕ) → IsLess gone (before customer) (now customer)
less_removed x xs before now gone chain one updates customer =
    less_chosen (x.sold.customer == customer) x xs (before customer) (now customer) gone customer refl (chain.newest customer)
    (λ same. ap (λ q. left_of gone (before q)) (sym same) ∙ one) (updates customer)

-- and otherwise all are known as before
pub less_kept : (x : Entry) (xs : List Entry) (before : ℕ → Option ℕ) (gone : ℕ) → IsChain (x ∷ xs) before gone
    → left_of gone (before x.sold.customer) ≢ 1 → (customer : ℕ) → IsLess gone (before customer) (before customer)
less_kept x xs before gone chain more customer =
    inl (refl, λ one. more (ap (λ q. left_of gone (before q)) (last_is_first x xs customer (left_of gone (before customer)) (chain.newest customer) one) ∙ one))
