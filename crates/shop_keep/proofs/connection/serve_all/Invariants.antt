use Rattle.std.proofs.Common.{◌≡◌, ◌-◌, ◌≤◌, false, length, All}
use Rattle.std.specs.Prelude.{is_some}
use Rattle.shop_attempt.specs.Marks.{KeepsMarks}
use Rattle.shop_book.specs.Solos.{marks_of, seat_of}
use Rattle.shop_engine.specs.Connections.{SoFar}
use Rattle.shop_engine.specs.Failures.{RoseBy, failures}
use Rattle.shop_engine.specs.Lists.{IsFreshPoint}
use Rattle.shop_engine.specs.Workers.{standing}
use Rattle.shop_keep.specs.Appends.{KeepsLog}
use Rattle.shop_keep.proofs.connection.serve_all.Given as goal

abbrev pub invariant-loop-alloc : goal.invariant-loop-alloc
invariant-loop-alloc g l = record {
  so_far : SoFar (standing seat_of l.fn.worker (g.C.Clock.readings l.fn.clock) (g.G.Gateway.answers l.fn.gateway)) (standing seat_of l.worker (g.C.Clock.readings l.clock) (g.G.Gateway.answers l.gateway))
      (record { left = g.S.Source.left l.fn.source; held = g.K.Sink.held l.fn.sink }) (record { left = g.S.Source.left l.source; held = g.K.Sink.held l.sink })
      l.gather.held l.points.items;
  keeps : KeepsLog (g.D.Disk.state l.fn.journal) (g.D.Disk.state l.journal) l.fn.worker.store.book.log l.worker.store.book.log;
  tells : is_some (g.D.Disk.state l.journal).told ≡ is_some (g.D.Disk.state l.fn.journal).told;
  disk : (g.D.Disk.state l.fn.journal).faults ≤ (g.D.Disk.state l.journal).faults;
  ended : l.gather.ended ≡ false;
  few : length l.points.items ≤ 1000;
  caller : l.worker.caller ≡ l.fn.worker.caller;
  reads : g.S.Source.faults l.fn.source ≤ g.S.Source.faults l.source;
  writes : g.K.Sink.faults l.fn.sink ≤ g.K.Sink.faults l.sink;
  marks : KeepsMarks (marks_of l.fn.worker.store) (marks_of l.worker.store) (seat_of l.fn.worker.store) (seat_of l.worker.store);
  fresh : All (IsFreshPoint (marks_of l.worker.store) (seat_of l.worker.store).seen) l.points.items;
  failures : RoseBy (g.G.Gateway.faults l.fn.gateway) (failures l.points.items) (g.G.Gateway.faults l.gateway);
  asks : g.G.Gateway.faults l.fn.gateway ≤ g.G.Gateway.faults l.gateway;
}

abbrev pub decreases-loop-alloc : goal.decreases-loop-alloc
decreases-loop-alloc g l = 1000 - length l.points.items
