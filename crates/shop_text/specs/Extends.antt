-- Texts that were only added to.
use Rattle.std.specs.Prelude.{◌≡◌, ℕ, List, length, take}

-- a text begins with what stood there before
abbrev pub Extends : List ℕ → List ℕ → Type 0
Extends before now = take (length before) now ≡ before
