-- Authorisation identifiers of the payment gateway, this project's own.
use Rattle.std.specs.Prelude.{ℕ, zero, suc, ◌≡◌, ◌+◌, ◌*◌, ◌/◌, ◌%◌, ◌^◌, List, [], ◌∷◌, ◌++◌, length, All}
use Rattle.std.specs.Char.{IsAsciiDigit}

-- so many digits of a number, the least significant ones
unfoldable pub digits : ℕ → ℕ → List ℕ
digits zero n = []
digits (suc more) n = digits more (n / 10) ++ (48 + n % 10) ∷ []

-- fifteen codes of digits
pub record IsAuthId (codes : List ℕ) : Type 0 where
  pub fifteen : length codes ≡ 15
  pub digits : All IsAsciiDigit codes

-- the number of an authorisation: that of the card, the charge in cents, the call and its caller
unfoldable pub auth_number : ℕ → ℕ → ℕ → ℕ → ℕ
auth_number card cents call caller =
    (card + 1_000_003 * cents + 10_007 * call + caller) % 10 ^ 15

-- the digits of an authorisation
abbrev pub auth_id : ℕ → ℕ → ℕ → ℕ → List ℕ
auth_id card cents call caller = digits 15 (auth_number card cents call caller)
