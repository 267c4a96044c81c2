-- What the number of a card and a month are.
use Rattle.std.proofs.Common.{◌≡◌, ℕ, suc, zero, ◌+◌, ◌/◌, ◌%◌, ◌^◌, ◌<◌, ◌≤◌, ◌&&◌, true, List, [], ◌∷◌, ◌++◌, length, nat_le, decimal, arith, ◌∙◌, refl, length-append}
use Rattle.std.specs.List.{list_all}
use Rattle.std.specs.Char.{is_ascii_digit}
use Rattle.std.proofs.lemmas.Bool.{and_parts, and_from, leb-true, le-leb}
use Rattle.std.proofs.lemmas.Fmt.{decimal_by_steps, length-decimal-le}
use Rattle.std.proofs.lemmas.Grind.{common_steps}
use Rattle.std.proofs.lemmas.List.Folds.{list_all-append}
use Rattle.std.proofs.Math.Nat.{pow-suc}
use Rattle.shop_model.specs.asked.Cards.{is_card_number, IsCardNumber, is_month, IsMonth}

-- it is short, and has digits alone
pub card_number_digits : (number : List ℕ) → IsCardNumber number → (length number ≤ 19) × (list_all is_ascii_digit number ≡ true)
unfolding is_card_number
card_number_digits number is =
    let parts = and_parts (nat_le 12 (length number) && nat_le (length number) 19) (list_all is_ascii_digit number) is in
    let sizes = and_parts (nat_le 12 (length number)) (nat_le (length number) 19) parts.0 in
    (leb-true (length number) 19 sizes.1, parts.1)

pub month_size : (text : List ℕ) → IsMonth text → length text ≡ 7
unfolding is_month
month_size text is = grind arith

-- a text of digits, so long that the number has one more digit than each power of ten that is at most the number
record IsLong (n : ℕ) (text : List ℕ) : Type 0 where
  digits : list_all is_ascii_digit text ≡ true
  long : (k : ℕ) → 10 ^ k ≤ n → k < length text

digit : (d : ℕ) → d < 10 → is_ascii_digit (48 + d) ≡ true
digit d small = grind (arith, common_steps)

one_at_least : (k : ℕ) → 1 ≤ 10 ^ k
one_at_least zero = omega arith
one_at_least (suc k) = omega (arith, pow-suc 10 k, one_at_least k)

-- a power of ten below ten is 1
small_power : (k n : ℕ) → n < 10 → 10 ^ k ≤ n → k ≡ 0
small_power zero n small most = refl
small_power (suc k) n small most = absurd (omega (arith, pow-suc 10 k, one_at_least k, most))

one_long : (n : ℕ) → n < 10 → IsLong n ((48 + n) ∷ [])
one_long n small = record {
  digits = rw (digit n small) refl;
  long = λ k most. omega (arith, small_power k n small most);
}

-- one more digit stands for one more power
next_power : (k n len : ℕ) → ((j : ℕ) → 10 ^ j ≤ n / 10 → j < len) → 10 ^ k ≤ n → k < len + 1
next_power zero n len front most = omega arith
next_power (suc k) n len front most =
    let less : 10 ^ k ≤ n / 10 = omega (arith, pow-suc 10 k, most) in omega (arith, front k less)

more_long : (n : ℕ) (text : List ℕ) → 10 ≤ n → IsLong (n / 10) text → IsLong n (text ++ (48 + n % 10) ∷ [])
more_long n text large front = record {
  digits = list_all-append is_ascii_digit text ((48 + n % 10) ∷ []) ∙ rw (front.digits, digit (n % 10) (omega arith)) refl;
  long = λ k most. rw length-append (next_power k n (length text) front.long most);
}

-- a number of 12 to 19 digits is a card's, in decimal
pub decimal_is_card_number : (n : ℕ) → 10 ^ 11 ≤ n → n < 10 ^ 19 → IsCardNumber (decimal n)
unfolding is_card_number
decimal_is_card_number n large small =
    let fits : n < 2 ^ 64 = omega (arith, small) in
    let long = decimal_by_steps IsLong one_long more_long n fits in
    let short = length-decimal-le 19 n (omega arith) small fits in
    let more = long.long 11 large in
    and_from _ _ (and_from _ _ (le-leb _ _ more) (le-leb _ _ short)) long.digits
