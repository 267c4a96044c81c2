-- A line that asks for a charge is read as that charge.
use Rattle.std.proofs.Common.{◌≡◌, ℕ, ◌+◌, ◌/◌, ◌%◌, ◌^◌, ◌<◌, ◌≤◌, ◌==◌, ◌&&◌, ◌||◌, ⊎_elim, nat_lt, nat_le, Bool, true, false, not, List, [], ◌∷◌, ◌++◌, length, take, drop, get_or, decimal, codes, Some, append_assoc, eq-eqb, cond, None, refl, sym, ap, ◌∙◌, arith}
use Rattle.std.specs.Char.{is_ascii_digit}
use Rattle.std.specs.List.{list_all}
use Rattle.std.specs.Str.Parse.{digits_value}
use Rattle.std.proofs.Math.Seq.{drop-append-add}
use Rattle.std.proofs.lemmas.Bool.{and_parts, and_from, cases_lt, eqb-true, le-leb, lt-ltb, ne_eqb}
use Rattle.std.proofs.lemmas.Fmt.{decimal_by_steps, decimal_is_IsNumeral, length-decimal-le}
use Rattle.std.proofs.lemmas.Grind.{common_steps}
use Rattle.std.proofs.lemmas.List.{get_or_append_left, length-append, take-append-drop, drop_more}
use Rattle.std.proofs.lemmas.List.Folds.{list_all-append}
use Rattle.shop_text.specs.Numbers.{number_of}
use Rattle.shop_text.proofs.cited.Digits.{digit_range}
use Rattle.shop_model.specs.declared.card_type.CardType.{CardType}
use Rattle.shop_model.specs.declared.card_type.CardType.TheVariants.{Visa, Mastercard, Discover, Amex, Diners}
use Rattle.shop_model.specs.rows.Subjects.{card_types, card_name, card_of}
use Rattle.shop_model.specs.asked.Cards.{is_card_number, is_month, is_month_number, IsMonth}
use Rattle.shop_model.proofs.cited.Cards.{card_number_digits}
use Rattle.shop_edges.specs.Charges.{ChargeValue, IsCharge}
use Rattle.shop_gateway.specs.Protocol.{before, after, is_plain, long_number, short_number, charge_in, charge_asked, charge_line}
use Rattle.shop_gateway.proofs.Charges.{same_bytes_self}

-- none of the bytes is this one
abbrev Lacks : ℕ → List ℕ → Type 0
Lacks byte xs = list_all (λ x. not (x == byte)) xs ≡ true

not_false : (b : Bool) → not b ≡ true → b ≡ false
not_false true is = absurd (let apart : false ≡ true = is in cc)
not_false false is = refl

before-part : (byte : ℕ) (xs ys : List ℕ) → Lacks byte xs → before byte (xs ++ byte ∷ ys) ≡ xs
unfolding before
before-part byte [] ys lacks = let same : (byte == byte) ≡ true = eq-eqb byte byte refl in rw same refl
before-part byte (x ∷ xs) ys lacks =
    let parts = and_parts (not (x == byte)) (list_all (λ z. not (z == byte)) xs) lacks in
    let other : (x == byte) ≡ false = not_false (x == byte) parts.0 in
    rw other (ap (λ zs. x ∷ zs) (before-part byte xs ys parts.1))

after-part : (byte : ℕ) (xs ys : List ℕ) → Lacks byte xs → after byte (xs ++ byte ∷ ys) ≡ ys
after-part byte xs ys lacks = ap (λ zs. drop (length zs + 1) (xs ++ byte ∷ ys)) (before-part byte xs ys lacks) ∙ drop-append-add xs (byte ∷ ys) 1

lacks-digits : (byte : ℕ) (xs : List ℕ) → byte < 48 → list_all is_ascii_digit xs ≡ true → Lacks byte xs
lacks-digits byte [] low are = refl
lacks-digits byte (x ∷ xs) low are =
    let parts = and_parts (is_ascii_digit x) (list_all is_ascii_digit xs) are in
    let other : (x == byte) ≡ false = ne_eqb x byte (λ is. omega (arith, is, digit_range x parts.0)) in
    and_from (not (x == byte)) (list_all (λ z. not (z == byte)) xs) (rw other refl) (lacks-digits byte xs low parts.1)

-- ---- numbers

record IsPlain (n : ℕ) (ds : List ℕ) : Type 0 where
  digits : list_all is_ascii_digit ds ≡ true
  some : 0 < length ds
  one : n < 10 → length ds ≡ 1
  first : 0 < n → 48 < get_or ds 0 0

digit : (d : ℕ) → d < 10 → is_ascii_digit (48 + d) ≡ true
digit d small = grind (arith, common_steps)

plain-one : (n : ℕ) → n < 10 → IsPlain n ((48 + n) ∷ [])
plain-one n small = record {
  digits = let is : is_ascii_digit (48 + n) ≡ true = digit n small in rw is refl;
  some = omega arith;
  one = λ _. refl;
  first = λ some. omega (arith, some);
}

plain-more : (n : ℕ) (ds : List ℕ) → 10 ≤ n → IsPlain (n / 10) ds → IsPlain n (ds ++ (48 + n % 10) ∷ [])
plain-more n ds large front = record {
  digits = list_all-append is_ascii_digit ds ((48 + n % 10) ∷ []) ∙ (let is : is_ascii_digit (48 + n % 10) ≡ true = digit (n % 10) (omega arith) in rw (front.digits, is) refl);
  some = omega (arith, length-append ds ((48 + n % 10) ∷ []));
  one = λ small. absurd (omega (arith, small, large));
  first = λ _. lead;
}
  where
    lead : 48 < get_or (ds ++ (48 + n % 10) ∷ []) 0 0
    lead = omega (arith, get_or_append_left ds ((48 + n % 10) ∷ []) 0 0 front.some, front.first (omega (arith, large)))

plain : (n : ℕ) → n < 2 ^ 64 → IsPlain n (decimal n)
plain n fits = decimal_by_steps IsPlain plain-one plain-more n fits

either : (a b : Bool) → b ≡ true → (a || b) ≡ true
either true b is = refl
either false b is = is

is_plain-decimal : (n : ℕ) → n < 2 ^ 64 → is_plain (decimal n) ≡ true
unfolding is_plain
is_plain-decimal n fits =
    let is = plain n fits in
    let leads : (length (decimal n) == 1 || nat_lt 48 (get_or (decimal n) 0 0)) ≡ true =
    ⊎_elim (λ small. let one : (length (decimal n) == 1) ≡ true = eq-eqb (length (decimal n)) 1 (is.one small) in rw one refl)
    (λ large. either (length (decimal n) == 1) (nat_lt 48 (get_or (decimal n) 0 0)) (lt-ltb 48 (get_or (decimal n) 0 0) (is.first (omega (arith, large)))))
    (cases_lt n 10) in
    and_from _ _ leads is.digits

long-decimal : (n : ℕ) → n < 10 ^ 18 → long_number (decimal n) ≡ Some n
unfolding long_number
long-decimal n few =
    let fits : n < 2 ^ 64 = omega (arith, few) in
    let short : nat_le (length (decimal n)) 18 ≡ true = le-leb (length (decimal n)) 18 (length-decimal-le 18 n (omega arith) few fits) in
    rw (is_plain-decimal n fits, short) (ap Some (decimal_is_IsNumeral n fits).1)

short-decimal : (n : ℕ) → n < 2 ^ 32 → short_number (decimal n) ≡ Some n
unfolding short_number number_of
short-decimal n few =
    let fits : n < 2 ^ 64 = omega (arith, few) in
    let is = plain n fits in
    let value : digits_value 10 (decimal n) ≡ n = (decimal_is_IsNumeral n fits).1 in
    let some : nat_le 1 (length (decimal n)) ≡ true = le-leb 1 (length (decimal n)) (omega (arith, is.some)) in
    let short : nat_le (length (decimal n)) 10 ≡ true = le-leb (length (decimal n)) 10 (length-decimal-le 10 n (omega arith) (omega (arith, few)) fits) in
    let below : nat_le n 4_294_967_295 ≡ true = le-leb n 4_294_967_295 (omega (arith, few)) in
    rw (is_plain-decimal n fits, some, short, is.digits, value, below) refl

-- ---- cards

card-back : (card : CardType) → card_of (card_name card) ≡ Some card
unfolding card_of card_types card_name
card-back Visa = refl
card-back Mastercard = refl
card-back Discover = refl
card-back Amex = refl
card-back Diners = refl

card-lacks : (card : CardType) → Lacks 32 (card_name card)
unfolding card_name
card-lacks Visa = refl
card-lacks Mastercard = refl
card-lacks Discover = refl
card-lacks Amex = refl
card-lacks Diners = refl

-- a month's number has digits alone
number-digits : (ds : List ℕ) → is_month_number (number_of ds) ≡ true → list_all is_ascii_digit ds ≡ true
unfolding number_of
number-digits ds is = by (nat_le 1 (length ds) && nat_le (length ds) 10) (list_all is_ascii_digit ds) (nat_le (digits_value 10 ds) 4_294_967_295) is
  where
    by : (sized are below : Bool) → is_month_number (cond (sized && are && below) (Some (digits_value 10 ds)) None) ≡ true → are ≡ true
    by sized true below is = refl
    by true false below is = absurd (let apart : false ≡ true = is in cc)
    by false false below is = absurd (let apart : false ≡ true = is in cc)

month-lacks : (text : List ℕ) → IsMonth text → Lacks 32 text
unfolding is_month
month-lacks text is =
    let ends = and_parts (length text == 7 && list_all is_ascii_digit (take 4 text) && get_or text 4 0 == 45) (is_month_number (number_of (drop 5 text))) is in
    let middle = and_parts (length text == 7 && list_all is_ascii_digit (take 4 text)) (get_or text 4 0 == 45) ends.0 in
    let front = and_parts (length text == 7) (list_all is_ascii_digit (take 4 text)) middle.0 in
    let hyphen : get_or text 4 0 ≡ 45 = eqb-true (get_or text 4 0) 45 middle.1 in
    let size : length text ≡ 7 = eqb-true (length text) 7 front.0 in
    let parts : text ≡ take 4 text ++ 45 ∷ drop 5 text =
    sym (take-append-drop 4 text) ∙ ap (λ xs. take 4 text ++ xs) (drop_more text 4 0 (omega (arith, size)) ∙ ap (λ b. b ∷ drop 5 text) hyphen) in
    let test : ℕ → Bool = λ x. not (x == 32) in
    ap (list_all test) parts
    ∙ list_all-append test (take 4 text) (45 ∷ drop 5 text)
    ∙ and_from _ _ (lacks-digits 32 (take 4 text) (omega arith) front.1) (lacks-digits 32 (drop 5 text) (omega arith) (number-digits (drop 5 text) ends.1))

-- ---- a line

-- a charge whose call and cents have at most 18 digits, as the grammar has it
pub record IsAskable (charge : ChargeValue) : Type 0 where
  pub caller : charge.caller < 2 ^ 32
  pub call : charge.call < 10 ^ 18
  pub cents : charge.cents < 10 ^ 18
  pub card : IsCharge charge

-- what asks for a charge is read as that charge
pub charge_asked-line : (charge : ChargeValue) → IsAskable charge → charge_asked (charge_line charge) ≡ Some charge
unfolding charge_asked charge_line charge_in
charge_asked-line charge is =
    let cents : List ℕ = decimal charge.cents in
    let r5 : List ℕ = charge.expiry ++ 32 ∷ cents in
    let r4 : List ℕ = charge.number ++ 32 ∷ r5 in
    let r3 : List ℕ = card_name charge.card ++ 32 ∷ r4 in
    let r2 : List ℕ = cents ++ 32 ∷ r3 in
    let r1 : List ℕ = decimal charge.call ++ 45 ∷ r2 in
    let r0 : List ℕ = decimal charge.caller ++ 45 ∷ r1 in
    let l0 = lacks-digits 45 (decimal charge.caller) (omega arith) (plain charge.caller (omega (arith, is.caller))).digits in
    let l1 = lacks-digits 45 (decimal charge.call) (omega arith) (plain charge.call (omega (arith, is.call))).digits in
    let l2 = lacks-digits 32 cents (omega arith) (plain charge.cents (omega (arith, is.cents))).digits in
    let l3 = card-lacks charge.card in
    let l4 = lacks-digits 32 charge.number (omega arith) (card_number_digits charge.number is.card.number).1 in
    let l5 = month-lacks charge.expiry is.card.expiry in
    let number : is_card_number charge.number ≡ true = is.card.number in
    let expiry : is_month charge.expiry ≡ true = is.card.expiry in
    let whole : charge_line charge ≡ codes "AUTH " ++ r0 = simp append_assoc in
    let inside : charge_in r0 ≡ Some charge =
    rw (
      after-part 45 (decimal charge.caller) r1 l0,
      after-part 45 (decimal charge.call) r2 l1,
      after-part 32 cents r3 l2,
      after-part 32 (card_name charge.card) r4 l3,
      after-part 32 charge.number r5 l4,
      after-part 32 charge.expiry cents l5,
      before-part 45 (decimal charge.caller) r1 l0,
      before-part 45 (decimal charge.call) r2 l1,
      before-part 32 cents r3 l2,
      before-part 32 (card_name charge.card) r4 l3,
      before-part 32 charge.number r5 l4,
      before-part 32 charge.expiry cents l5,
      same_bytes_self cents,
      short-decimal charge.caller is.caller,
      long-decimal charge.call is.call,
      long-decimal charge.cents is.cents,
      card-back charge.card,
      number,
      expiry,
    ) refl in
    ap charge_asked whole ∙ inside
