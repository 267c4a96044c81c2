-- What each answer to a request for the lines of a cart says.
use Rattle.std.specs.Prelude.{◌≡◌, ℕ, List, None, Some}
use Rattle.shop_model.specs.trade.Carts.{wanted, or_drawn, set_lines, cart_lines, check_lines}
use Rattle.shop_model.specs.asked.CartAsked.{CartAsked}
use Rattle.shop_pricing.specs.declared.filling.Filled.{Filled}
use Rattle.shop_pricing.specs.declared.filling.Filled.TheVariants.{Done, Refused, Memory}

-- these quantities set one after another: Done where none is refused, and the lines are then set;
-- Refused has the first refusal
abbrev pub AreSet : ℕ → List (ℕ × ℕ) → List (ℕ × ℕ) → List (ℕ × ℕ) → Filled → Type 0
AreSet items sets old new Done = (check_lines items sets old ≡ None) × (new ≡ set_lines sets old)
AreSet items sets old new (Refused refusal) = check_lines items sets old ≡ Some refusal
AreSet items sets old new Memory = Unit {0}

-- a drawn item, where there was no line; it is never refused
abbrev pub IsDrawn : ℕ → ℕ → List (ℕ × ℕ) → List (ℕ × ℕ) → Filled → Type 0
IsDrawn items draw old new Done = new ≡ or_drawn items draw old
IsDrawn items draw old new (Refused refusal) = ⊥
IsDrawn items draw old new Memory = Unit {0}

-- what a request asks for: Done where it is not refused, and the lines are then those that it makes; Refused has its refusal
abbrev pub IsFilled : ℕ → CartAsked → ℕ → List (ℕ × ℕ) → List (ℕ × ℕ) → Filled → Type 0
IsFilled items asked draw old new Done =
    (check_lines items (wanted asked old) old ≡ None) × (new ≡ cart_lines items asked draw old)
IsFilled items asked draw old new (Refused refusal) = check_lines items (wanted asked old) old ≡ Some refusal
IsFilled items asked draw old new Memory = Unit {0}
