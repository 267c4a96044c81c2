-- Keys and charges that are told apart, and what is told of a charge whose key an entry has.
use Rattle.std.proofs.Common.{◌≡◌, ℕ, ◌&&◌, ◌==◌, Bool, true, false, cond, List, eq-eqb, refl, sym, ◌∙◌, ap, subst}
use Rattle.std.specs.Str.{bytes_eq}
use Rattle.std.proofs.lemmas.Bool.{and_parts, eqb-true}
use Rattle.std.proofs.lemmas.Slice.Eq.{bytes_eq-Decides}
use Rattle.shop_model.specs.declared.card_type.CardType.{CardType}
use Rattle.shop_model.specs.declared.card_type.CardType.TheVariants.{Visa, Mastercard, Discover, Amex, Diners}
use Rattle.shop_edges.specs.Charges.{ChargeValue}
use Rattle.shop_edges.specs.declared.gateway.Answer.{Answer}
use Rattle.shop_edges.specs.declared.gateway.Reason.TheVariants.{Reused}
use Rattle.shop_edges.specs.declared.gateway.Verdict.TheVariants.{Denied}
use Rattle.shop_gateway.specs.Verdicts.{Key, key_of, same_key, same_card, same_charge, next_answer}

abbrev key : ℕ → ℕ → ℕ → Key
key caller call cents = (caller, call, cents)

pub same_key_is : (a b : Key) → same_key a b ≡ true → a ≡ b
same_key_is a b same =
    let parts = and_parts (a.0 == b.0 && a.1 == b.1) (a.2 == b.2) same in
    let front = and_parts (a.0 == b.0) (a.1 == b.1) parts.0 in
    ap (λ x. key x a.1 a.2) (eqb-true a.0 b.0 front.0)
    ∙ ap (λ x. key b.0 x a.2) (eqb-true a.1 b.1 front.1)
    ∙ ap (λ x. key b.0 b.1 x) (eqb-true a.2 b.2 parts.1)

pub both : (a b : Bool) → a ≡ true → b ≡ true → (a && b) ≡ true
both true b one other = other
both false b one other = absurd (let apart : false ≡ true = one in cc)

pub same_key_self : (a : Key) → same_key a a ≡ true
same_key_self a =
    both (a.0 == a.0 && a.1 == a.1) (a.2 == a.2)
    (both (a.0 == a.0) (a.1 == a.1) (eq-eqb a.0 a.0 refl) (eq-eqb a.1 a.1 refl))
    (eq-eqb a.2 a.2 refl)

same_card_is : (a b : CardType) → same_card a b ≡ true → a ≡ b
same_card_is Visa Visa same = refl
same_card_is Mastercard Mastercard same = refl
same_card_is Discover Discover same = refl
same_card_is Amex Amex same = refl
same_card_is Diners Diners same = refl
same_card_is a b same = absurd (let apart : false ≡ true = same in cc)

same_card_self : (a : CardType) → same_card a a ≡ true
same_card_self Visa = refl
same_card_self Mastercard = refl
same_card_self Discover = refl
same_card_self Amex = refl
same_card_self Diners = refl

pub same_bytes_self : (a : List ℕ) → bytes_eq a a ≡ true
same_bytes_self a = (bytes_eq-Decides a a).1 refl

abbrev charge : Key → CardType → List ℕ → List ℕ → ChargeValue
charge k card number expiry =
    record { caller = k.0; call = k.1; cents = k.2; card = card; number = number; expiry = expiry }

pub same_charge_is : (a b : ChargeValue) → same_charge a b ≡ true → a ≡ b
unfolding same_charge
same_charge_is a b same =
    let expiry = and_parts (same_key (key_of a) (key_of b) && same_card a.card b.card && bytes_eq a.number b.number) (bytes_eq a.expiry b.expiry) same in
    let number = and_parts (same_key (key_of a) (key_of b) && same_card a.card b.card) (bytes_eq a.number b.number) expiry.0 in
    let card = and_parts (same_key (key_of a) (key_of b)) (same_card a.card b.card) number.0 in
    ap (λ x. charge x a.card a.number a.expiry) (same_key_is (key_of a) (key_of b) card.0)
    ∙ ap (λ x. charge (key_of b) x a.number a.expiry) (same_card_is a.card b.card card.1)
    ∙ ap (λ x. charge (key_of b) b.card x a.expiry) ((bytes_eq-Decides a.number b.number).0 number.1)
    ∙ ap (λ x. charge (key_of b) b.card b.number x) ((bytes_eq-Decides a.expiry b.expiry).0 expiry.1)

pub same_charge_self : (a : ChargeValue) → same_charge a a ≡ true
unfolding same_charge
same_charge_self a =
    both (same_key (key_of a) (key_of a) && same_card a.card a.card && bytes_eq a.number a.number) (bytes_eq a.expiry a.expiry)
    (both (same_key (key_of a) (key_of a) && same_card a.card a.card) (bytes_eq a.number a.number)
    (both (same_key (key_of a) (key_of a)) (same_card a.card a.card) (same_key_self (key_of a)) (same_card_self a.card))
    (same_bytes_self a.number))
    (same_bytes_self a.expiry)

pub unlike : (a b : ChargeValue) → (a ≡ b → ⊥) → same_charge a b ≡ false
unlike a b apart = by (same_charge a b) refl
  where
    by : (x : Bool) → same_charge a b ≡ x → x ≡ false
    by true is = absurd (apart (same_charge_is a b is))
    by false is = refl

-- the answer to an equal charge is the entry
pub next_same : (entry : Answer) (asked : ChargeValue) → entry.charge ≡ asked → entry ≡ next_answer entry asked
next_same entry asked same =
    subst (λ (c : ChargeValue). entry ≡ next_answer entry c) same
    (ap (λ (b : Bool). let a : Answer = record { charge = entry.charge; verdict = cond b entry.verdict (Denied Reused) } in a)
    (sym (same_charge_self entry.charge)))

-- to another one it is a denial
pub next_other : (entry : Answer) (asked copied : ChargeValue) → copied ≡ asked → (entry.charge ≡ asked → ⊥)
    → (let a : Answer = record { charge = copied; verdict = Denied Reused } in a) ≡ next_answer entry asked
next_other entry asked copied same apart =
    ap (λ (c : ChargeValue). let a : Answer = record { charge = c; verdict = Denied Reused } in a) same
    ∙ ap (λ (b : Bool). let a : Answer = record { charge = asked; verdict = cond b entry.verdict (Denied Reused) } in a) (sym (unlike entry.charge asked apart))
