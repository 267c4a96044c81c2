-- A stored counter that goes up several times.
use Rattle.std.specs.Prelude.{ℕ, zero, suc}
use Rattle.shop_edges.specs.Causes.{count_up}

-- after so many more; it stands still at its type's end
abbrev pub counted : ℕ → ℕ → ℕ
counted zero n = n
counted (suc more) n = count_up (counted more n)
