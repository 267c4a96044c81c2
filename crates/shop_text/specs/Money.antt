-- Money and small numbers in decimal.
use Rattle.std.specs.Prelude.{ℕ, ◌+◌, ◌/◌, ◌%◌, List, [], ◌∷◌, ◌++◌, decimal}

-- a number below 100 in two digits
abbrev pub two_digits : ℕ → List ℕ
two_digits n = (48 + n / 10) ∷ (48 + n % 10) ∷ []

-- whole units, a point and two digits
abbrev pub cents_text : ℕ → List ℕ
cents_text cents = decimal (cents / 100) ++ 46 ∷ two_digits (cents % 100)
