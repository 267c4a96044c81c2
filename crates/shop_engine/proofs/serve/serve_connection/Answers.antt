use Rattle.std.proofs.Common.{subst}
use Rattle.shop_history.specs.Lawful.{IsLawful}
use Rattle.shop_engine.specs.Workers.{WorkerState}
use Rattle.shop_engine.proofs.Steps.{lawful}
use Rattle.shop_engine.proofs.Undisturbed.{all_whole}
use Rattle.shop_engine.proofs.serve.serve_connection.Goals as goal

pub returns-clause-lawful : goal.returns-clause-lawful
returns-clause-lawful g c =
    subst (λ (w : WorkerState g.row.St.Denot). IsLawful (g.St.Store.seat w.store).opening (g.St.Store.seat w.store).seen) c.worker.view_is
    (lawful (g.St.Store.seat c.worker.inside.store) c.worker.invariant.0.valid)

pub returns-clause-complete : goal.returns-clause-complete
returns-clause-complete g c quiet kept =
    let served = c.serve_all-report.ensures in
    all_whole _ _ _ _ c.serve_all-report.result.end _ _ _ served.served quiet served.failures kept
