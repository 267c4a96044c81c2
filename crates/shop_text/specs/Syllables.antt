-- Numbers spelled in syllables, this project's own.
use Rattle.std.specs.Prelude.{ℕ, ◌-◌, ◌==◌, List, codes, decimal, map, if◌then◌else◌}
use Rattle.std.specs.List.{flat_map}
use Rattle.shop_text.specs.Fold.{lower}

-- the syllable of a digit
abbrev pub syllable : ℕ → List ℕ
syllable digit =
    if digit == 0 then codes "BA" else
    (if digit == 1 then codes "OG" else
    (if digit == 2 then codes "AL" else
    (if digit == 3 then codes "RI" else
    (if digit == 4 then codes "RE" else
    (if digit == 5 then codes "SE" else
    (if digit == 6 then codes "AT" else
    (if digit == 7 then codes "UL" else
    (if digit == 8 then codes "IN" else codes "NG"))))))))

-- each digit as its syllable, by the digits' codes
abbrev pub spelled : List ℕ → List ℕ
spelled digits = flat_map (λ digit. syllable (digit - 48)) digits

-- each decimal digit of a number as its syllable
abbrev pub digsyl : ℕ → List ℕ
digsyl n = spelled (decimal n)

-- the same in lower case
abbrev pub digsyl_lower : ℕ → List ℕ
digsyl_lower n = map lower (digsyl n)
