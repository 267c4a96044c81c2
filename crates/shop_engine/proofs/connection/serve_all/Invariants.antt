use Rattle.std.proofs.Common.{◌≡◌, ◌-◌, ◌≤◌, false, length, All}
use Rattle.shop_attempt.specs.Marks.{KeepsMarks}
use Rattle.shop_engine.specs.Connections.{SoFar}
use Rattle.shop_engine.specs.Failures.{RoseBy, failures}
use Rattle.shop_engine.specs.Lists.{IsFreshPoint}
use Rattle.shop_engine.specs.Workers.{standing}
use Rattle.shop_engine.proofs.connection.serve_all.Given as goal

abbrev pub invariant-loop-source : goal.invariant-loop-source
invariant-loop-source g l = record {
  so_far : SoFar (standing g.St.Store.seat l.fn.worker (g.C.Clock.readings l.fn.clock) (g.G.Gateway.answers l.fn.gateway)) (standing g.St.Store.seat l.worker (g.C.Clock.readings l.clock) (g.G.Gateway.answers l.gateway))
      (record { left = g.S.Source.left l.fn.source; held = g.K.Sink.held l.fn.sink }) (record { left = g.S.Source.left l.source; held = g.K.Sink.held l.sink })
      l.gather.held l.points.items;
  ended : l.gather.ended ≡ false;
  few : length l.points.items ≤ 1000;
  caller : l.worker.caller ≡ l.fn.worker.caller;
  reads : g.S.Source.faults l.fn.source ≤ g.S.Source.faults l.source;
  writes : g.K.Sink.faults l.fn.sink ≤ g.K.Sink.faults l.sink;
  marks : KeepsMarks (g.St.Store.marked l.fn.worker.store) (g.St.Store.marked l.worker.store) (g.St.Store.seat l.fn.worker.store) (g.St.Store.seat l.worker.store);
  fresh : All (IsFreshPoint (g.St.Store.marked l.worker.store) (g.St.Store.seat l.worker.store).seen) l.points.items;
  failures : RoseBy (g.G.Gateway.faults l.fn.gateway) (failures l.points.items) (g.G.Gateway.faults l.gateway);
  asks : g.G.Gateway.faults l.fn.gateway ≤ g.G.Gateway.faults l.gateway;
}

abbrev pub decreases-loop-source : goal.decreases-loop-source
decreases-loop-source g l = 1000 - length l.points.items
