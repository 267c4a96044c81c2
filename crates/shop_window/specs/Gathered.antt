-- The pairs of an item and its units that buyers bought, gathered, and the items that have units.
use Rattle.std.specs.Prelude.{ℕ, ◌+◌, ◌-◌, ◌&&◌, ◌==◌, not, nat_lt, Bool, List, map, filter, take, flat_map, if◌then◌else◌, IsPermutation}
use Rattle.std.specs.List.{range_with_len}
use Rattle.std.specs.List.Sorted.{IsNonDecreasingBy}
use Rattle.shop_model.specs.lists.Rankings.{Sale, better, put_among}
use Rattle.shop_model.specs.lists.Related.{units_in_lines}

-- all pairs of these lists, rising by item
pub record AreGathered (lists : List (List (ℕ × ℕ))) (pairs : List (ℕ × ℕ)) : Type 0 where
  pub same : IsPermutation (flat_map (λ ps. ps) lists) pairs
  pub rising : IsNonDecreasingBy (λ p. p.0) pairs

-- an item with its units
abbrev pub sale_in : List (ℕ × ℕ) → ℕ → Sale
sale_in pairs id = record { id = id; units = units_in_lines id pairs }

-- some units of an item were bought, and it is another than this one
abbrev pub is_beside : ℕ → Sale → Bool
is_beside item s = nat_lt 0 s.units && not (s.id == item)

-- the items from this id on, of so many, besides one, that have units
abbrev pub besides_from : ℕ → List (ℕ × ℕ) → ℕ → ℕ → List Sale
besides_from id pairs item items = filter (is_beside item) (map (sale_in pairs) (range_with_len id (items + 1 - id)))

-- the first five, once one more item came that may be beside
abbrev pub offered : ℕ → Sale → List Sale → List Sale
offered item s top = if is_beside item s then take 5 (put_among better s top) else top
