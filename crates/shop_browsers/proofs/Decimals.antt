-- The digits of a number, however large.
use Rattle.std.proofs.Common.{◌≡◌, ℕ, zero, suc, ◌+◌, ◌/◌, ◌%◌, ◌<◌, ◌≤◌, ◌==◌, Bool, true, false, List, [], ◌∷◌, length, decimal, arith, refl}
use Rattle.std.specs.Fmt.{digits, digits_onto, digit_glyph}
use Rattle.std.proofs.lemmas.Bool.{cond_both, lt-ltb}
use Rattle.shop_browsers.proofs.Escaped.{none_of}

none_onto : (p : ℕ → Bool) → ((n : ℕ) → n < 10 → p (48 + n) ≡ false) → (k n : ℕ) (acc : List ℕ) → none_of p acc ≡ true → none_of p (digits_onto k 10 false n acc) ≡ true
none_onto p fails zero n acc none = none
none_onto p fails (suc k) n acc none =
    cond_both (n / 10 == 0) _ _ (λ all. none_of p all ≡ true) (λ _. more) (λ _. none_onto p fails k (n / 10) _ more)
  where
    small : n % 10 < 10
    small = omega arith

    more : none_of p (digit_glyph false (n % 10) ∷ acc) ≡ true
    more = rw (lt-ltb (n % 10) 10 small, fails (n % 10) small) none

-- what no digit passes, no byte of a number passes
pub none_decimal : (p : ℕ → Bool) → ((n : ℕ) → n < 10 → p (48 + n) ≡ false) → (n : ℕ) → none_of p (decimal n) ≡ true
unfolding digits
none_decimal p fails n = none_onto p fails 64 n [] refl

length_onto : (k n : ℕ) (acc : List ℕ) → length (digits_onto k 10 false n acc) ≤ k + length acc
length_onto zero n acc = omega arith
length_onto (suc k) n acc =
    cond_both (n / 10 == 0) _ _ (λ all. length all ≤ suc k + length acc) (λ _. omega arith)
    (λ _. omega (arith, length_onto k (n / 10) (digit_glyph false (n % 10) ∷ acc)))

pub decimal_short : (n : ℕ) → length (decimal n) ≤ 64
unfolding digits
decimal_short n = omega (arith, length_onto 64 n [])
