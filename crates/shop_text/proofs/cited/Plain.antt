-- Texts in pieces as they stand in a page, and texts whose bytes stand for themselves there.
use Rattle.std.proofs.Common.{◌≡◌, ℕ, ◌+◌, ◌-◌, ◌/◌, ◌%◌, ◌<◌, ◌^◌, ◌==◌, List, [], ◌∷◌, ◌++◌, length, take, get_or, decimal, Bool, true, false, if◌then◌else◌, arith, refl}
use Rattle.std.proofs.lemmas.Bool.Decides.{nat_tests}
use Rattle.std.proofs.lemmas.Fmt.{decimal_by_steps}
use Rattle.std.proofs.lemmas.Grind.{flat_map-append}
use Rattle.std.proofs.lemmas.List.{take_more}
use Rattle.shop_text.specs.Escape.{escape, escape_byte}
use Rattle.shop_text.specs.Money.{cents_text, two_digits}
use Rattle.shop_text.specs.Syllables.{syllable, spelled}

pub escape_append : (a b : List ℕ) → escape (a ++ b) ≡ escape a ++ escape b
escape_append a b = flat_map-append escape_byte a b

abbrev IsPlain : List ℕ → Type 0
IsPlain text = escape text ≡ text

plain_append : (a b : List ℕ) → IsPlain a → IsPlain b → IsPlain (a ++ b)
plain_append a b first second = rw (escape_append a b, first, second) refl

-- one more plain byte
pub plain_more : (bytes : List ℕ) (at : ℕ) → at < length bytes → IsPlain (take at bytes)
    → escape_byte (get_or bytes at 0) ≡ get_or bytes at 0 ∷ [] → IsPlain (take (at + 1) bytes)
plain_more bytes at lt before plain =
    rw (take_more bytes at 0 lt)
    (plain_append (take at bytes) (get_or bytes at 0 ∷ []) before (rw plain refl))

plain_digit : (n : ℕ) → n < 10 → IsPlain ((48 + n) ∷ [])
plain_digit n lt = grind (arith, nat_tests)

-- the digits of a number
pub plain_decimal : (n : ℕ) → n < 2 ^ 64 → escape (decimal n) ≡ decimal n
plain_decimal n lt =
    decimal_by_steps (λ _ digits. IsPlain digits) plain_digit
    (λ n digits le before. plain_append digits ((48 + n % 10) ∷ []) before (plain_digit (n % 10) (omega arith)))
    n lt

-- an amount
pub plain_cents : (n : ℕ) → n < 2 ^ 64 → escape (cents_text n) ≡ cents_text n
plain_cents n lt =
    let tens = n % 100 / 10 in
    let ones = n % 100 % 10 in
    plain_append (decimal (n / 100)) (46 ∷ two_digits (n % 100)) (plain_decimal (n / 100) (omega arith))
    (plain_append (46 ∷ (48 + tens) ∷ []) ((48 + ones) ∷ [])
    (plain_append (46 ∷ []) ((48 + tens) ∷ []) refl (plain_digit tens (omega arith)))
    (plain_digit ones (omega arith)))

one_of : (P : List ℕ → Type 0) (b : Bool) (x y : List ℕ) → P x → P y → P (if b then x else y)
one_of P true x y first second = first
one_of P false x y first second = second

-- what holds of each syllable holds of that of a digit
pub syllable_cases : (P : List ℕ → Type 0) → P (syllable 0) → P (syllable 1) → P (syllable 2) → P (syllable 3) → P (syllable 4)
    → P (syllable 5) → P (syllable 6) → P (syllable 7) → P (syllable 8) → P (syllable 9) → (n : ℕ) → P (syllable n)
syllable_cases P p0 p1 p2 p3 p4 p5 p6 p7 p8 p9 n =
    one_of P (n == 0) _ _ p0
    (one_of P (n == 1) _ _ p1
    (one_of P (n == 2) _ _ p2
    (one_of P (n == 3) _ _ p3
    (one_of P (n == 4) _ _ p4
    (one_of P (n == 5) _ _ p5
    (one_of P (n == 6) _ _ p6
    (one_of P (n == 7) _ _ p7
    (one_of P (n == 8) _ _ p8 p9))))))))

-- digits as their syllables
pub plain_spelled : (digits : List ℕ) → escape (spelled digits) ≡ spelled digits
plain_spelled [] = refl
plain_spelled (code ∷ digits) =
    let plain = syllable_cases IsPlain refl refl refl refl refl refl refl refl refl refl in
    plain_append (syllable (code - 48)) (spelled digits) (plain (code - 48)) (plain_spelled digits)
