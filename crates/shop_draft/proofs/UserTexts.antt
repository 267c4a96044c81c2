-- How long user names are.
use Rattle.std.proofs.Common.{◌≡◌, ℕ, ◌-◌, ◌*◌, List, [], ◌∷◌, length, decimal, arith, refl, length-append}
use Rattle.shop_text.specs.Escape.{escape}
use Rattle.shop_text.specs.Syllables.{syllable, spelled, digsyl}
use Rattle.shop_text.proofs.cited.Plain.{syllable_cases, plain_spelled}

length-spelled : (digits : List ℕ) → length (spelled digits) ≡ 2 * length digits
length-spelled [] = refl
length-spelled (code ∷ digits) =
    let two = syllable_cases (λ text. length text ≡ 2) refl refl refl refl refl refl refl refl refl refl in
    omega (arith, length-append (syllable (code - 48)) (spelled digits), two (code - 48), length-spelled digits)

-- two bytes for each digit
pub length-user : (n : ℕ) → length (escape (digsyl n)) ≡ 2 * length (decimal n)
length-user n = rw (plain_spelled (decimal n)) (length-spelled (decimal n))
