-- How many entries each caller has.
use Rattle.std.specs.Prelude.{ℕ, ◌<◌, ◌==◌, nat_eq, unwrap_or, if◌then◌else◌}
use Rattle.std.specs.HashMap.{get, spare}
use Rattle.shop_book.specs.declared.counts.Counts.{Counts}

-- the count of a caller, or 0
abbrev pub count_in : Counts → ℕ → ℕ
count_in c caller = unwrap_or (get nat_eq c.by_caller caller) 0

-- counts with that of one caller set
abbrev pub with_count : (ℕ → ℕ) → ℕ → ℕ → ℕ → ℕ
with_count counts caller count other = if caller == other then count else counts other

-- there is room for one caller more
abbrev pub HasRoom : Counts → Type 0
HasRoom c = 0 < spare c.by_caller
