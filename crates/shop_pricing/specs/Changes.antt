-- What each answer of a change says of the lines before and after it.
use Rattle.std.specs.Prelude.{◌≡◌, ℕ, true, false, List}
use Rattle.shop_model.specs.trade.Carts.{set_line, is_too_many}
use Rattle.shop_pricing.specs.declared.lines.Changed.{Changed}
use Rattle.shop_pricing.specs.declared.lines.Changed.TheVariants.{Done, TooMany, Memory}

-- Done sets the line; TooMany and Memory change nothing, and TooMany comes where a line would be too many, and only there
abbrev pub IsChanged : ℕ → ℕ → List (ℕ × ℕ) → List (ℕ × ℕ) → Changed → Type 0
IsChanged item quantity old new Done = (is_too_many item quantity old ≡ false) × (new ≡ set_line item quantity old)
IsChanged item quantity old new TooMany = (is_too_many item quantity old ≡ true) × (new ≡ old)
IsChanged item quantity old new Memory = (is_too_many item quantity old ≡ false) × (new ≡ old)
