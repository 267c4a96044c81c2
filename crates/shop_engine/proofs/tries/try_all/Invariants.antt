use Rattle.std.proofs.Common.{◌≤◌, None}
use Rattle.shop_attempt.specs.Marks.{KeepsMarks}
use Rattle.shop_engine.proofs.Conflicts.{MetSoFar}
use Rattle.shop_engine.proofs.tries.try_all.Given as goal

-- so far each try met a conflict
abbrev pub invariant-loop-tried : goal.invariant-loop-tried
invariant-loop-tried g l = record {
  so_far : MetSoFar (record { seat = g.St.Store.seat l.fn.store; kept = None; told = g.G.Gateway.answers l.fn.gateway })
      (record { seat = g.St.Store.seat l.store; kept = l.kept; told = g.G.Gateway.answers l.gateway }) l.job l.conflicts l.tried;
  marks : KeepsMarks (g.St.Store.marked l.fn.store) (g.St.Store.marked l.store) (g.St.Store.seat l.fn.store) (g.St.Store.seat l.store);
  later : g.G.Gateway.faults l.fn.gateway ≤ g.G.Gateway.faults l.gateway;
}
