use Rattle.std.proofs.Common.{◌≡◌, ◌≤◌, ◌++◌, length}
use Rattle.std.specs.List.{range_with_len}
use Rattle.shop_attempt.specs.Marks.{KeepsMarks}
use Rattle.shop_engine.specs.Workers.{standing}
use Rattle.shop_drive.specs.Drives.{in_turn}
use Rattle.shop_drive.proofs.TurnLemmas.{SoFar}
use Rattle.shop_drive.proofs.turns.take_turns.Given as goal

abbrev pub invariant-loop-round : goal.invariant-loop-round
invariant-loop-round g l = record {
  so_far : SoFar (g.St.Store.marked l.worker.store) (record { worker = standing g.St.Store.seat l.fn.worker (g.C.Clock.readings l.fn.clock) (g.G.Gateway.answers l.fn.gateway); browsers = l.fn.browsers; failures = g.G.Gateway.faults l.fn.gateway })
      (record { worker = standing g.St.Store.seat l.worker (g.C.Clock.readings l.clock) (g.G.Gateway.answers l.gateway); browsers = l.browsers; failures = g.G.Gateway.faults l.gateway })
      l.tally (in_turn (length l.fn.browsers) l.round);
  caller : l.worker.caller ≡ l.fn.worker.caller;
  marks : KeepsMarks (g.St.Store.marked l.fn.worker.store) (g.St.Store.marked l.worker.store) (g.St.Store.seat l.fn.worker.store) (g.St.Store.seat l.worker.store);
  later : g.G.Gateway.faults l.fn.gateway ≤ g.G.Gateway.faults l.gateway;
}

abbrev pub invariant-loop-place : goal.invariant-loop-place
invariant-loop-place g l = record {
  so_far : SoFar (g.St.Store.marked l.worker.store) (record { worker = standing g.St.Store.seat l.fn.worker (g.C.Clock.readings l.fn.clock) (g.G.Gateway.answers l.fn.gateway); browsers = l.fn.browsers; failures = g.G.Gateway.faults l.fn.gateway })
      (record { worker = standing g.St.Store.seat l.worker (g.C.Clock.readings l.clock) (g.G.Gateway.answers l.gateway); browsers = l.browsers; failures = g.G.Gateway.faults l.gateway })
      l.tally (in_turn (length l.fn.browsers) l.round ++ range_with_len 0 l.place);
  caller : l.worker.caller ≡ l.fn.worker.caller;
  marks : KeepsMarks (g.St.Store.marked l.fn.worker.store) (g.St.Store.marked l.worker.store) (g.St.Store.seat l.fn.worker.store) (g.St.Store.seat l.worker.store);
  later : g.G.Gateway.faults l.fn.gateway ≤ g.G.Gateway.faults l.gateway;
}
