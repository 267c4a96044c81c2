use Rattle.futures.specs.Task.{Keeps}
use Rattle.shop_lanes.specs.Pools.{CanGoOn, GoesOn}
use Rattle.shop_lanes.specs.Turns.{Turns}
use Rattle.shop_lanes.proofs.polling.Pool+L+B+B+Serving+B+Report.poll_all.Given as goal

abbrev pub invariant-loop-at : goal.invariant-loop-at
invariant-loop-at g l = record {
  live : CanGoOn g.B.Berth.can_poll l.self;
  since : GoesOn (g.B.Berth, g.L.PolledListener) l.fn.self l.self;
  turns : Turns (g.B.Berth, g.L.PolledListener) l.at l.fn.self l.self l.cx;
  kept : Keeps l.fn.cx l.cx;
}
