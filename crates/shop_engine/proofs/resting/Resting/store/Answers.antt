use Rattle.std.proofs.Common.{subst}
use Rattle.shop_history.specs.Lawful.{IsLawful}
use Rattle.shop_engine.specs.Workers.{WorkerState}
use Rattle.shop_engine.proofs.Steps.{lawful}
use Rattle.shop_engine.proofs.resting.Resting.store.Goals as goal

pub returns-clause-lawful : goal.returns-clause-lawful
returns-clause-lawful g c =
    subst (λ (w : WorkerState g.row.St.Denot). IsLawful (g.St.Store.seat w.store).opening (g.St.Store.seat w.store).seen) c.self.view_is
    (lawful (g.St.Store.seat c.self.inside.store) c.self.invariant.0.valid)
