use Rattle.std.proofs.Common.{ℕ, ◌<◌}
use Rattle.shop_lanes.specs.Spots.{IsBusy, lane_at}
use Rattle.shop_lanes.proofs.pool.are_free.Given as goal

abbrev pub invariant-loop-at : goal.invariant-loop-at
invariant-loop-at g l = (at : ℕ) → at < l.at → IsBusy (lane_at at l.lanes) → ⊥
