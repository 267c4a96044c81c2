-- Items with their units, rising by item, and the lines that are added to them.
use Rattle.std.specs.Prelude.{ℕ, ◌+◌, ◌==◌, nat_lt, List, [], ◌∷◌, sum_by, if◌then◌else◌}

-- a line added to the units of its item, which is put at its place where it was not there
unfoldable pub add_to : ℕ × ℕ → List (ℕ × ℕ) → List (ℕ × ℕ)
add_to line [] = line ∷ []
add_to line (total ∷ totals) =
    if nat_lt total.0 line.0 then total ∷ add_to line totals
    else if line.0 == total.0 then (total.0, total.1 + line.1) ∷ totals
    else line ∷ total ∷ totals

-- lines added, from the last to the first
unfoldable pub add_all : List (ℕ × ℕ) → List (ℕ × ℕ) → List (ℕ × ℕ)
add_all [] totals = totals
add_all (line ∷ lines) totals = add_to line (add_all lines totals)

-- all units of lines or totals
abbrev pub units_of : List (ℕ × ℕ) → ℕ
units_of lines = sum_by (λ l. l.1) lines
