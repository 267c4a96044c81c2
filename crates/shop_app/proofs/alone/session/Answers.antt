use Rattle.std.proofs.Common.{refl}
use Rattle.shop_engine.proofs.cited.Fresh.{all_fresh}
use Rattle.shop_app.proofs.SessionLemmas.{session-by-end, standing_first}
use Rattle.shop_app.proofs.alone.session.Goals as goal

pub returns-clause-session : goal.returns-clause-session
returns-clause-session g c =
    let served = c.serve_connection-report.ensures in
    rw c.of.ensures
    (session-by-end c.args.asked _ _ _ _ _ (standing_first c.args.asked _ _ _ c.in-Ok.ensures) refl refl served.failures served.asks served.lawful (all_fresh _ _ _ served.fresh) c.serve_connection-report.result.end served.served served.read_fault served.write_fault)
