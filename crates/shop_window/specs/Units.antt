-- Units of items, listed by the ids of the items.
use Rattle.std.specs.Prelude.{◌≡◌, ℕ, ◌+◌, ◌^◌, ◌<◌, ◌≤◌, List, length, All, slice_index}
use Rattle.shop_model.specs.lists.Related.{units_in_lines}

-- these lines are of items that are listed
abbrev pub AreListed : List ℕ → List (ℕ × ℕ) → Type 0
AreListed units lines = All (λ l. l.0 < length units) lines

-- so many units of each item were added
pub record Adds (before now : List ℕ) (units : ℕ → ℕ) : Type 0 where
  pub size : length now ≡ length before
  pub each : (item : ℕ) → item < length before → slice_index now item ≡ slice_index before item + units item

-- the units of these lines may be added
pub record HasRoom (units : List ℕ) (lines : List (ℕ × ℕ)) : Type 0 where
  pub items : AreListed units lines
  pub fits : (item : ℕ) → item < length units → slice_index units item + units_in_lines item lines < 2 ^ 64

-- the units of these lines may be taken away
pub record HasUnits (units : List ℕ) (lines : List (ℕ × ℕ)) : Type 0 where
  pub items : AreListed units lines
  pub some : (item : ℕ) → item < length units → units_in_lines item lines ≤ slice_index units item
