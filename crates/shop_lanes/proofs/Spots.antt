-- Lanes, and one of them set.
use Rattle.std.proofs.Common.{◌≡◌, ◌≢◌, ⊎_elim, ℕ, zero, suc, ◌≤◌, ◌<◌, List, [], ◌∷◌, map, length, get_or, set, refl, sym, subst, arith}
use Rattle.std.specs.Prelude.{All}
use Rattle.std.proofs.lemmas.Bool.{cases_eq, cases_lt}
use Rattle.std.proofs.lemmas.List.{get_or-set_same, get_or-set_other, get_or_default, get_or_past}
use Rattle.std.proofs.lemmas.List.Sums.{sum_by-cons}
use Rattle.shop_places.specs.Spots.{IsFree, put_free}
use Rattle.shop_places.specs.declared.spot.Spot.{Spot}
use Rattle.shop_places.specs.declared.spot.Spot.TheVariants.{Free, Busy, Gone}
use Rattle.shop_lanes.specs.Spots.{IsBusy, IsHere, NoneBusy, busy_lanes, busy_one, lane_at}

module _ {B V : Type 0} where
  -- one lane is set, and each other stays
  pub each_set : (P : ℕ → Spot B V → Type 0) (lanes : List (Spot B V)) (at : ℕ) (lane : Spot B V) → at < length lanes → P at lane
      → ((k : ℕ) → k ≢ at → P k (lane_at k lanes)) → (k : ℕ) → P k (lane_at k (set lanes at lane))
  each_set P lanes at lane inside here others k =
      ⊎_elim
      (λ (same : k ≡ at). subst (λ (n : ℕ). P n (lane_at n (set lanes at lane))) (sym same) (subst (P at) (sym (get_or-set_same lanes at lane Gone inside)) here))
      (λ (apart : k ≢ at). subst (P k) (sym (get_or-set_other lanes at k lane Gone apart)) (others k apart))
      (cases_eq k at)

  pub busy_is : (lane : Spot B V) → IsBusy lane → (link : ℕ) × (serving : V) × (lane ≡ Busy link serving)
  busy_is (Free berth) busy = absurd busy
  busy_is (Busy link serving) busy = (link, serving, refl)
  busy_is Gone busy = absurd busy

  pub busy_free : (lane : Spot B V) → IsBusy lane → IsFree lane → ⊥
  busy_free (Free berth) busy free = busy
  busy_free (Busy link serving) busy free = free
  busy_free Gone busy free = busy

  -- a lane that is free is there
  pub inside_of : (lanes : List (Spot B V)) (at : ℕ) → IsFree (lane_at at lanes) → at < length lanes
  inside_of lanes at free =
      ⊎_elim (λ (low : at < length lanes). low) (λ (behind : length lanes ≤ at). absurd (subst IsFree (get_or_past lanes at Gone behind) free)) (cases_lt at (length lanes))

  -- a lane is free that is not busy
  pub is_free : (can_poll : V → Type 0) (lane : Spot B V) → IsHere can_poll lane → (IsBusy lane → ⊥) → IsFree lane
  is_free can_poll (Free berth) here none = tt
  is_free can_poll (Busy link serving) here none = none tt
  is_free can_poll Gone here none = here

  pub are_free : (can_poll : V → Type 0) (lanes : List (Spot B V)) → All (IsHere can_poll) lanes → NoneBusy lanes → All IsFree lanes
  are_free can_poll lanes here none k d within =
      is_free can_poll (get_or lanes k d) (here k d within) (λ busy. none k (subst IsBusy (get_or_default lanes k d Gone within) busy))

-- lanes with these berths
pub none_busy : (B V : Type 0) (berths : List B) → busy_lanes {V = V} (map put_free berths) ≡ 0
none_busy B V [] = refl
none_busy B V (berth ∷ berths) = omega (arith, sum_by-cons (busy_one {B = B} {V = V}) (put_free berth) (map put_free berths), none_busy B V berths)

pub all_here : {B V : Type 0} (can_poll : V → Type 0) (berths : List B) → All (IsHere can_poll) (map (put_free {S = B} {T = V}) berths)
all_here can_poll [] k d within = absurd (omega (arith, within))
all_here can_poll (berth ∷ berths) zero d within = tt
all_here can_poll (berth ∷ berths) (suc k) d within = all_here can_poll berths k d (omega (arith, within))
