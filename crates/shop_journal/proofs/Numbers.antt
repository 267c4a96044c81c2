-- A number's digits are read as that number, and are a text.
use Rattle.std.proofs.Common.{◌≡◌, ℕ, ◌≤◌, ◌<◌, ◌^◌, true, List, [], ◌∷◌, length, decimal, Some, refl, arith, IsUtf8}
use Rattle.std.proofs.lemmas.Bool.{le-leb}
use Rattle.std.proofs.lemmas.Fmt.{decimal_is_IsNumeral, length-decimal-le, IsAscii-decimal}
use Rattle.std.proofs.lemmas.Str.{IsUtf8-from_ascii}
use Rattle.std.proofs.lemmas.Str.Parse.{digit_from_value}
use Rattle.std.specs.Char.{is_ascii_digit}
use Rattle.std.specs.Int.{IsInRange}
use Rattle.std.specs.List.{list_all}
use Rattle.std.specs.Str.Parse.{AllDigits}
use Rattle.shop_text.specs.Numbers.{number_of}
use Rattle.shop_model.specs.asked.CustomersAsked.{IsId}

digit : (c : ℕ) → IsInRange 48 57 c → is_ascii_digit c ≡ true
digit c is = grind (arith, is.0, is.1)

all_digits : (ds : List ℕ) → AllDigits 10 ds → list_all is_ascii_digit ds ≡ true
all_digits [] each = refl
all_digits (c ∷ cs) each = rw (digit c (digit_from_value c each.0)) (all_digits cs each.1)

pub number_length : (n : ℕ) → IsId n → length (decimal n) ≤ 10
number_length n is = length-decimal-le 10 n (omega arith) (omega (arith, is)) (omega (arith, is))

pub number_again : (n : ℕ) → IsId n → number_of (decimal n) ≡ Some n
unfolding number_of
number_again n is =
    let wide : n < 2 ^ 64 = omega (arith, is) in
    let reads = decimal_is_IsNumeral n wide in
    rw (le-leb _ _ reads.0.0, le-leb _ _ (number_length n is), all_digits (decimal n) reads.0.1, reads.1, le-leb _ _ is) refl

pub number_text : (n : ℕ) → IsId n → IsUtf8 (decimal n)
number_text n is = IsUtf8-from_ascii (decimal n) (IsAscii-decimal n (omega (arith, is)))
