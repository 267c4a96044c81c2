-- Lanes: places where a busy one has what serves its link.
use Rattle.std.specs.Prelude.{⊤, ℕ, List, get_or, sum_by}
use Rattle.shop_places.specs.declared.spot.Spot.{Spot}
use Rattle.shop_places.specs.declared.spot.Spot.TheVariants.{Free, Busy, Gone}

module _ {B V : Type 0} where
  -- what a lane has, counted from 0; behind the last one there is nothing
  abbrev pub lane_at : ℕ → List (Spot B V) → Spot B V
  lane_at at lanes = get_or lanes at Gone

  abbrev pub IsBusy : Spot B V → Type 0
  IsBusy (Free berth) = ⊥
  IsBusy (Busy link serving) = ⊤
  IsBusy Gone = ⊥

  -- it has its berth, or a serving that may be polled
  abbrev pub IsHere : (V → Type 0) → Spot B V → Type 0
  IsHere can_poll (Free berth) = ⊤
  IsHere can_poll (Busy link serving) = can_poll serving
  IsHere can_poll Gone = ⊥

  abbrev pub busy_one : Spot B V → ℕ
  busy_one (Free berth) = 0
  busy_one (Busy link serving) = 1
  busy_one Gone = 0

  -- how many lanes are busy
  abbrev pub busy_lanes : List (Spot B V) → ℕ
  busy_lanes lanes = sum_by busy_one lanes

  abbrev pub HasBusy : List (Spot B V) → Type 0
  HasBusy lanes = (at : ℕ) × IsBusy (lane_at at lanes)

  abbrev pub NoneBusy : List (Spot B V) → Type 0
  NoneBusy lanes = (at : ℕ) → IsBusy (lane_at at lanes) → ⊥
