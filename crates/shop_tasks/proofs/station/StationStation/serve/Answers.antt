use Rattle.shop_tasks.proofs.cited.Stations.{let_go}
use Rattle.shop_tasks.proofs.station.StationStation.serve.Goals as goal

pub returns : goal.returns
returns g c =
    let_go (g.C.Clock, g.I.Source, g.O.Sink) _ _ _ _ _ _ _ _ _ c.serve_link-report.ensures c.end-2.ensures.left c.end-2.ensures.faults c.end.ensures.held c.end.ensures.faults
