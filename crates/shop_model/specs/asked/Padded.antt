-- What begins an array of 19 elements, with zeros behind it; this project's own.
use Rattle.std.specs.Prelude.{◌≡◌, ℕ, ◌-◌, ◌≤◌, List, ◌++◌, length, take, drop, replicate}
use Rattle.std.proofs.Common.{◌∙◌, ap, sym, subst, take-append-drop, length-take-le}

pub padded_len : (len : ℕ) (all : List ℕ) → length all ≡ 19 → len ≤ 19 → length (take len all) ≡ len
padded_len len all size within = length-take-le len all (subst (λ (n : ℕ). len ≤ n) (sym size) within)

-- it and the zeros are the array
pub padded : (len : ℕ) (all : List ℕ) → length all ≡ 19 → len ≤ 19 → drop len all ≡ replicate (19 - len) 0
    → take len all ++ replicate (19 - length (take len all)) 0 ≡ all
padded len all size within zeros =
    ap (λ (n : ℕ). take len all ++ replicate (19 - n) 0) (padded_len len all size within)
    ∙ ap (λ (rest : List ℕ). take len all ++ rest) (sym zeros)
    ∙ take-append-drop len all
