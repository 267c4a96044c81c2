-- Texts that were only added to begin with what stood there before.
use Rattle.std.proofs.Common.{ℕ, ◌≤◌, List, ◌++◌, length, arith, ap}
use Rattle.std.proofs.lemmas.List.{length-take, take-append-le}
use Rattle.shop_text.specs.Extends.{Extends}

longer : (before now : List ℕ) → Extends before now → length before ≤ length now
longer before now kept = omega (arith, length-take (length before) now, ap length kept)

pub Extends-append : (before now more : List ℕ) → Extends before now → Extends before (now ++ more)
Extends-append before now more kept =
    rw (take-append-le (length before) now more (longer before now kept)) kept
