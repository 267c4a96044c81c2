-- Notes with one answer more, and charges that are told apart by their keys.
use Rattle.std.proofs.Common.{◌≡◌, ℕ, ◌||◌, ◌==◌, Bool, true, false, not, cond, List, [], ◌∷◌, ◌++◌, eq-eqb, refl, sym, ◌∙◌, ap, ap₂, append-nil}
use Rattle.std.specs.List.{filter}
use Rattle.std.specs.Str.{bytes_eq}
use Rattle.std.proofs.lemmas.Bool.{and_parts, eqb-true}
use Rattle.std.proofs.lemmas.List.Elements.{filter-append}
use Rattle.std.proofs.lemmas.List.Folds.{list_any-append}
use Rattle.std.proofs.lemmas.Slice.Eq.{bytes_eq-Decides}
use Rattle.shop_model.specs.declared.card_type.CardType.{CardType}
use Rattle.shop_model.specs.declared.card_type.CardType.TheVariants.{Visa, Mastercard, Discover, Amex, Diners}
use Rattle.shop_edges.specs.Charges.{ChargeValue}
use Rattle.shop_edges.specs.declared.gateway.Answer.{Answer}
use Rattle.shop_gateway.specs.declared.charge_key.ChargeKey.{ChargeKey}
use Rattle.shop_gateway.specs.Verdicts.{same_charge}
use Rattle.shop_gateway.specs.Notes.{AreNoted, alike, card_code, charge_key, firsts, is_answered, is_other}
use Rattle.shop_gateway.proofs.Charges.{both, same_charge_self, unlike}

-- ---- keys

card_at : ℕ → CardType
card_at n = cond (n == 0) Visa (cond (n == 1) Mastercard (cond (n == 2) Discover (cond (n == 3) Amex Diners)))

card_back : (card : CardType) → card_at (card_code card) ≡ card
unfolding card_at
card_back Visa = refl
card_back Mastercard = refl
card_back Discover = refl
card_back Amex = refl
card_back Diners = refl

same_code : (a b : CardType) → card_code a ≡ card_code b → a ≡ b
same_code a b same = sym (card_back a) ∙ ap card_at same ∙ card_back b

abbrev charge_of : ℕ → ℕ → ℕ → CardType → List ℕ → List ℕ → ChargeValue
charge_of caller call cents card number expiry = record { caller = caller; call = call; cents = cents; card = card; number = number; expiry = expiry }

alike_is : (a b : ChargeValue) → alike (charge_key a) (charge_key b) ≡ true → a ≡ b
alike_is a b same =
    let caller = and_parts (a.caller == b.caller) _ same in
    let call = and_parts (a.call == b.call) _ caller.1 in
    let cents = and_parts (a.cents == b.cents) _ call.1 in
    let card = and_parts (card_code a.card == card_code b.card) _ cents.1 in
    let texts = and_parts (bytes_eq a.number b.number) (bytes_eq a.expiry b.expiry) card.1 in
    ap (λ x. charge_of x a.call a.cents a.card a.number a.expiry) (eqb-true a.caller b.caller caller.0)
    ∙ ap (λ x. charge_of b.caller x a.cents a.card a.number a.expiry) (eqb-true a.call b.call call.0)
    ∙ ap (λ x. charge_of b.caller b.call x a.card a.number a.expiry) (eqb-true a.cents b.cents cents.0)
    ∙ ap (λ x. charge_of b.caller b.call b.cents x a.number a.expiry) (same_code a.card b.card (eqb-true (card_code a.card) (card_code b.card) card.0))
    ∙ ap (λ x. charge_of b.caller b.call b.cents b.card x a.expiry) ((bytes_eq-Decides a.number b.number).0 texts.0)
    ∙ ap (λ x. charge_of b.caller b.call b.cents b.card b.number x) ((bytes_eq-Decides a.expiry b.expiry).0 texts.1)

alike_self : (key : ChargeKey) → alike key key ≡ true
alike_self key =
    both (key.caller == key.caller) _ (eq-eqb key.caller key.caller refl)
    (both (key.call == key.call) _ (eq-eqb key.call key.call refl)
    (both (key.cents == key.cents) _ (eq-eqb key.cents key.cents refl)
    (both (key.card == key.card) _ (eq-eqb key.card key.card refl)
    (both (bytes_eq key.number key.number) _ ((bytes_eq-Decides key.number key.number).1 refl) ((bytes_eq-Decides key.expiry key.expiry).1 refl)))))

-- a key is found by exactly the charges that have it
alike_same : (a b : ChargeValue) → alike (charge_key a) (charge_key b) ≡ same_charge a b
alike_same a b = by (alike (charge_key a) (charge_key b)) refl
  where
    by : (x : Bool) → alike (charge_key a) (charge_key b) ≡ x → x ≡ same_charge a b
    by true is = sym (ap (same_charge a) (sym (alike_is a b is)) ∙ same_charge_self a)
    by false is = sym (unlike a b (λ same. let apart : true ≡ false = sym (alike_self (charge_key a)) ∙ ap (λ c. alike (charge_key a) (charge_key c)) same ∙ is in cc))

-- ---- the first answers

-- one more stays out where its charge has an answer
pub firsts_more : (answers : List Answer) (answer : Answer) → firsts (answers ++ answer ∷ []) ≡ cond (is_answered answers answer.charge) (firsts answers) (firsts answers ++ answer ∷ [])
unfolding firsts
firsts_more [] answer = refl
firsts_more (one ∷ answers) answer =
    ap (λ (notes : List Answer). one ∷ filter (is_other one.charge) notes) (firsts_more answers answer)
    ∙ by (same_charge one.charge answer.charge) (is_answered answers answer.charge) refl
  where
    filtered : (same : Bool) → same_charge one.charge answer.charge ≡ same
        → filter (is_other one.charge) (firsts answers ++ answer ∷ []) ≡ filter (is_other one.charge) (firsts answers) ++ cond (not same) (answer ∷ []) []
    filtered same is =
        filter-append (is_other one.charge) (firsts answers) (answer ∷ [])
        ∙ ap (λ (b : Bool). filter (is_other one.charge) (firsts answers) ++ cond (not b) (answer ∷ []) []) is

    by : (same later : Bool) → same_charge one.charge answer.charge ≡ same
        → one ∷ filter (is_other one.charge) (cond later (firsts answers) (firsts answers ++ answer ∷ []))
        ≡ cond (same || later) (one ∷ filter (is_other one.charge) (firsts answers)) ((one ∷ filter (is_other one.charge) (firsts answers)) ++ answer ∷ [])
    by true true is = refl
    by false true is = refl
    by true false is = ap (λ (notes : List Answer). one ∷ notes) (filtered true is ∙ append-nil (filter (is_other one.charge) (firsts answers)))
    by false false is = ap (λ (notes : List Answer). one ∷ notes) (filtered false is)

-- ---- what is kept

pub none_noted : (has : ChargeKey → Bool) → ((key : ChargeKey) → has key ≡ false) → AreNoted [] [] has
unfolding firsts
none_noted has none = record { firsts = refl; found = λ charge. none (charge_key charge) }

pub still_noted : (all notes after later : List Answer) (has finds : ChargeKey → Bool) → AreNoted all notes has → after ≡ all → later ≡ notes → ((key : ChargeKey) → finds key ≡ has key)
    → AreNoted after later finds
still_noted all notes after later has finds are same_all same_notes same_keys = record {
  firsts = same_notes ∙ are.firsts ∙ ap firsts (sym same_all);
  found = λ charge. same_keys (charge_key charge) ∙ are.found charge ∙ ap (λ answers. is_answered answers charge) (sym same_all);
}

turned : (b : Bool) (notes more : List Answer) → cond (not b) more notes ≡ cond b notes more
turned true notes more = refl
turned false notes more = refl

either : (same was : Bool) → cond same true was ≡ (was || (same || false))
either true true = refl
either true false = refl
either false true = refl
either false false = refl

pub noted_more : (all notes : List Answer) (has : ChargeKey → Bool) (answer : Answer) (after later : List Answer) (finds : ChargeKey → Bool) (is_first : Bool) → AreNoted all notes has
    → is_first ≡ not (has (charge_key answer.charge)) → after ≡ all ++ answer ∷ [] → later ≡ cond is_first (notes ++ answer ∷ []) notes
    → ((key : ChargeKey) → finds key ≡ cond (alike (charge_key answer.charge) key) true (has key)) → AreNoted after later finds
noted_more all notes has answer after later finds is_first are first all_is notes_is keys = record {
  firsts =
      notes_is
      ∙ ap₂ (λ (b : Bool) (notes : List Answer). cond b (notes ++ answer ∷ []) notes) (first ∙ ap not (are.found answer.charge)) are.firsts
      ∙ turned (is_answered all answer.charge) (firsts all) (firsts all ++ answer ∷ [])
      ∙ sym (ap firsts all_is ∙ firsts_more all answer);
  found = λ charge.
      keys (charge_key charge)
      ∙ ap₂ (λ (same has : Bool). cond same true has) (alike_same answer.charge charge) (are.found charge)
      ∙ either (same_charge answer.charge charge) (is_answered all charge)
      ∙ sym (ap (λ (answers : List Answer). is_answered answers charge) all_is ∙ list_any-append (λ (a : Answer). same_charge a.charge charge) all (answer ∷ []));
}
