use Rattle.std.proofs.Common.{[], subst}
use Rattle.shop_engine.specs.declared.report.Ended.TheVariants as ended
use Rattle.shop_engine.specs.Workers.{WorkerState}
use Rattle.shop_turn.specs.Desks.{DeskValue}
use Rattle.shop_tasks.specs.Serves.{Meanings, Serves}
use Rattle.shop_tasks.specs.StationValues.{station_of}
use Rattle.shop_tasks.proofs.cited.Stations.{unserved}
use Rattle.shop_tasks.proofs.station.serve_by.Goals as goal

pub returns-in-Err : goal.returns-in-Err
returns-in-Err g c =
    let by : Meanings g.row.C.Denot g.row.I.Denot g.row.O.Denot = (g.C.Clock, g.I.Source, g.O.Sink) in
    let resting : WorkerState DeskValue = c.in-Err.resting in
    rw c.new.ensures
    (subst (λ (w : WorkerState DeskValue). Serves by (station_of w c.args.clock.now c.args.till.now) c.args.source.now c.args.sink.now (station_of resting c.args.clock.now c.args.till.now) c.args.source.now c.args.sink.now (record { end = ended.Memory; points = [] }))
    c.in-Err.ensures.resting
    (unserved by (station_of resting c.args.clock.now c.args.till.now) c.args.source.now c.args.sink.now c.store.ensures.lawful c.audit.ensures))

pub returns : goal.returns
returns g c =
    let by : Meanings g.row.C.Denot g.row.I.Denot g.row.O.Denot = (g.C.Clock, g.I.Source, g.O.Sink) in
    let after = c.serve_connection-report.new in
    let serves = c.serve_connection-report.ensures in
    let worker : WorkerState DeskValue = after.worker in
    rw c.rest.ensures
    (subst (λ (w : WorkerState DeskValue). Serves by (station_of w c.args.clock.now c.args.till.now) c.args.source.now c.args.sink.now (station_of (record worker { reply = [] }) after.clock after.gateway) after.source after.sink c.serve_connection-report.result)
    c.in-Ok.ensures.awake
    (record {
      served = serves.served;
      complete = serves.complete;
      caller = serves.caller;
      lawful = serves.lawful;
      marks = serves.marks;
      read_fault = serves.read_fault;
      write_fault = serves.write_fault;
      reads = serves.reads;
      writes = serves.writes;
      fresh = serves.fresh;
      failures = serves.failures;
      asks = serves.asks;
      verdicts = c.audit-2.ensures;
    }))
