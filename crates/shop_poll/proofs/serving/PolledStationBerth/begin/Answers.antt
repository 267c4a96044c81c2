use Rattle.std.proofs.Common.{subst}
use Rattle.shop_gateway.specs.Emulators.{EmulatorValue}
use Rattle.shop_polled.specs.Meetings.{Parts, parts}
use Rattle.shop_tasks.specs.Serves.{Serves}
use Rattle.shop_tasks.specs.StationValues.{StationValue}
use Rattle.shop_turn.specs.Desks.{DeskValue}
use Rattle.shop_poll.specs.Servings.{GivesAs, PolledMeanings, serves_by}
use Rattle.shop_poll.specs.declared.serving.Stage.{Stage}
use Rattle.shop_poll.proofs.Servings.{IsServed, begun, refused_link}
use Rattle.shop_poll.proofs.serving.PolledStationBerth.begin.Goals as goal
use Rattle.shop_poll.proofs.serving.PolledStationBerth.begin.Goals.{in-Ok, in-Err}

pub returns-clause-serving : goal.returns-clause-serving
returns-clause-serving g c done gives =
    let by : PolledMeanings g.row.S.Denot g.row.K.Denot g.row.C.Denot = (g.S.PolledSource, g.K.PolledSink, g.C.Clock) in
    let inside = c.self.inside in
    let first : Parts DeskValue g.row.S.Denot g.row.K.Denot g.row.C.Denot EmulatorValue = parts inside.worker c.args.source c.args.sink inside.clock inside.gateway in
    let given : GivesAs by c.match-new.stage done = gives in
    let is : IsServed by first done = elim c.match-new.branch [
      | in-Ok w ↦ begun by first w.in-Ok.connection w.in-Ok.ensures.begun done (subst (λ (s : Stage DeskValue g.row.S.Denot g.row.K.Denot g.row.C.Denot). GivesAs by s done) w.stage-is given)
      | in-Err w ↦ refused_link by first w.in-Err.finished w.in-Err.ensures.refused c.store.ensures.lawful c.answers.ensures.verdicts done
          (subst (λ (s : Stage DeskValue g.row.S.Denot g.row.K.Denot g.row.C.Denot). GivesAs by s done) w.stage-is given).0
    ] in
    subst (λ (s : StationValue g.row.C.Denot g.row.S.Denot g.row.K.Denot). Serves (serves_by by) s c.args.source c.args.sink done.berth done.source done.sink done.report) c.self.view_is is
