use Rattle.std.proofs.Common.{ℕ, ◌<◌}
use Rattle.futures.specs.Task.{Keeps}
use Rattle.shop_lanes.specs.Pools.{CanGoOn, GoesOn}
use Rattle.shop_lanes.specs.Spots.{IsBusy, lane_at}
use Rattle.shop_lanes.specs.Turns.{Accepts}
use Rattle.shop_lanes.proofs.accepting.Pool+L+B+B+Serving+B+Report.accept_all.Given as goal

abbrev pub invariant-loop-at : goal.invariant-loop-at
invariant-loop-at g l = record {
  live : CanGoOn g.B.Berth.can_poll l.self;
  since : GoesOn (g.B.Berth, g.L.PolledListener) l.fn.self l.self;
  accepts : Accepts (g.B.Berth, g.L.PolledListener) l.fn.self l.self;
  busy : (at : ℕ) → at < l.at → IsBusy (lane_at at l.self.lanes.items);
  kept : Keeps l.fn.cx l.cx;
}
