-- The digits of a number, written from the last, and as they stand in a page.
use Rattle.std.proofs.Common.{◌≡◌, ℕ, zero, suc, ◌+◌, ◌-◌, ◌/◌, ◌%◌, ◌<◌, ◌≤◌, List, [], ◌∷◌, ◌++◌, length, drop, set, All, arith, refl, append_assoc, add-one}
use Rattle.std.specs.Char.{IsAsciiDigit}
use Rattle.std.proofs.lemmas.Bool.Decides.{nat_tests}
use Rattle.std.proofs.lemmas.List.{drop-set}
use Rattle.std.proofs.lemmas.List.Elements.{All-head, All-tail}
use Rattle.shop_text.specs.Escape.{escape, escape_byte}
use Rattle.shop_model.specs.rows.AuthIds.{digits}

-- one digit more, before those that are written
pub digits_more : (place n : ℕ) (written : List ℕ) → 0 < place → place ≤ length written
    → digits place n ++ drop place written
    ≡ digits (place - 1) (n / 10) ++ drop (place - 1) (set written (place - 1) (48 + n % 10))
unfolding digits
digits_more zero n written some within = absurd (omega arith)
digits_more (suc k) n written some within =
    let less : suc k - 1 ≡ k = omega arith in
    let first = drop-set written k (48 + n % 10) (omega arith) in
    let behind = append_assoc (digits k (n / 10)) ((48 + n % 10) ∷ []) (drop (suc k) written) in
    rw (less, first, behind, add-one) refl

plain_code : (code : ℕ) → IsAsciiDigit code → escape_byte code ≡ code ∷ []
plain_code code is = grind (arith, nat_tests, is)

-- digits stand for themselves in a page
pub plain_codes : (codes : List ℕ) → All IsAsciiDigit codes → escape codes ≡ codes
plain_codes [] all = refl
plain_codes (code ∷ codes) all =
    rw (plain_code code (All-head IsAsciiDigit code codes all), plain_codes codes (All-tail IsAsciiDigit code codes all)) refl
