use Rattle.std.proofs.Common.{ap, Err}
use denote.Param.Send.{sendable}
use Rattle.shop_places.specs.declared.serving.Stop.{Stop}
use Rattle.shop_places.specs.Listening.{Listening, listening}
use Rattle.shop_tasks.proofs.cited.Sent.{station_sent}
use Rattle.shop_app.proofs.cited.ServeLemmas.{one_shop, served_links}
use Rattle.shop_app.proofs.cited.Ends.{stopped}
use Rattle.shop_app.proofs.served.serve_connections.Goals as goal

pub serve-requires-send-S : goal.serve-requires-send-S
serve-requires-send-S g c κs within = search (sendable, station_sent)

pub lines_of-requires : goal.lines_of-requires
lines_of-requires g c =
    let seen : g.row.L.Denot → Listening g.row.I.Denot g.row.O.Denot = listening g.L.Listener in
    one_shop (g.C.Clock, g.I.Source, g.O.Sink) c.args.asked.now (g.C.Clock.readings c.args.clock.now) c.in_ok-own.own c.in_ok-own.stations.items c.in_ok-own.ensures.ok c.in-Ok.stations.items
    (seen c.args.listener.now) (seen c.open_stations.new.listener) (seen c.serve.new.listener) c.in-Ok.ensures.served

pub returns-in-Ok-lines_of : goal.returns-in-Ok-lines_of
returns-in-Ok-lines_of g c =
    let seen : g.row.L.Denot → Listening g.row.I.Denot g.row.O.Denot = listening g.L.Listener in (
      served_links (g.C.Clock, g.I.Source, g.O.Sink) c.args.asked.now (g.C.Clock.readings c.args.clock.now) c.in_ok-own.own c.in_ok-own.stations.items c.in_ok-own.ensures.ok c.in-Ok.stations.items
          (seen c.args.listener.now) (seen c.open_stations.new.listener) (seen c.serve.new.listener) c.in-Ok.ensures.served
          c.requires c.in_ok-own.ensures.listens c.in-Ok-lines_of.lines c.in-Ok-lines_of.ensures,
      c.in-Ok.ensures.starts,
    )

pub returns-in-Err : goal.returns-in-Err
returns-in-Err g c =
    rw c.status_of.ensures
    (stopped c.in-Err.stop (g.L.Listener.faults c.args.listener.now) (g.L.Listener.faults c.open_stations.new.listener) (g.L.Listener.faults c.serve.new.listener) c.args.spawner.now c.serve.new.spawner
    c.in_ok-own.ensures.listens.later (λ is. c.in-Err.ensures.no_link (ap (λ (s : Stop). Err s) is)) (λ is. c.in-Err.ensures.not_started (ap (λ (s : Stop). Err s) is)))
