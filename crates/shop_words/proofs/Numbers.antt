-- Numbers in words, and that they are plain.
use Rattle.std.proofs.Common.{◌≡◌, ◌<◌, ℕ, Bool, true, false, refl, List, [], ◌∷◌, length, Some, None, arith, leb-true}
use Rattle.std.specs.Prelude.{nat_le}
use Rattle.std.specs.List.{list_all}
use Rattle.std.specs.Char.{is_ascii_digit}
use Rattle.std.specs.Str.Parse.{AllDigits}
use Rattle.std.proofs.lemmas.Fmt.{IsAscii-from_digits}
use Rattle.std.proofs.lemmas.Str.{IsUtf8-from_ascii, digit_value_digit}
use Rattle.shop_text.proofs.cited.Digits.{digit_range}
use Rattle.clap.proofs.WalkLemmas.{both}
use Rattle.shop_words.specs.Options.{IsPlain}
use Rattle.shop_text.specs.Numbers.{number_of}

digits-from : (bs : List ℕ) → list_all is_ascii_digit bs ≡ true → AllDigits 10 bs
digits-from [] e = tt
digits-from (c ∷ bs) e =
    let parts = both (is_ascii_digit c) (list_all is_ascii_digit bs) e in
    let value = digit_value_digit c (digit_range c parts.0) in
    (omega (arith, value, (digit_range c parts.0)), digits-from bs parts.1)

-- what a test of both says
digit-plain : (bs : List ℕ) → 0 < length bs → list_all is_ascii_digit bs ≡ true → IsPlain bs
digit-plain [] some digits = absurd (omega (arith, some))
digit-plain (c ∷ bs) some digits =
    let range = digit_range c (both (is_ascii_digit c) (list_all is_ascii_digit bs) digits).0 in
    record { utf8 = IsUtf8-from_ascii (c ∷ bs) (IsAscii-from_digits (c ∷ bs) (digits-from (c ∷ bs) digits)); no_hyphen = λ is. omega (arith, range, is) }

-- a number is written in digits
pub number-digits : (bs : List ℕ) (n : ℕ) → number_of bs ≡ Some n → (0 < length bs) × (list_all is_ascii_digit bs ≡ true)
unfolding number_of
number-digits bs n is = go (nat_le 1 (length bs)) (nat_le (length bs) 10) (list_all is_ascii_digit bs) refl refl refl
  where
    go : (some few digits : Bool) → nat_le 1 (length bs) ≡ some → nat_le (length bs) 10 ≡ few → list_all is_ascii_digit bs ≡ digits
        → (0 < length bs) × (list_all is_ascii_digit bs ≡ true)
    go true true true s f d = let low = leb-true 1 (length bs) s in (omega (arith, low), d)
    go true true false s f d = let none : None ≡ Some n = rw (s, f, d) at is in cc
    go true false digits s f d = let none : None ≡ Some n = rw (s, f) at is in cc
    go false few digits s f d = let none : None ≡ Some n = rw s at is in cc

pub number-plain : (bs : List ℕ) (n : ℕ) → number_of bs ≡ Some n → IsPlain bs
number-plain bs n is = let written = number-digits bs n is in digit-plain bs written.0 written.1
