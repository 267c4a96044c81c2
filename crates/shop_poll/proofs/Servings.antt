-- What a station that is polled promises of a link, by what its connection does.
use Rattle.std.proofs.Common.{◌≡◌, [], Option, Some, None, sym, subst}
use Rattle.std.specs.Prelude.{IfSome, IsSomeAnd}
use Rattle.shop_gateway.specs.Emulators.{EmulatorValue}
use Rattle.shop_gateway.specs.Verdicts.{AreVerdicts}
use Rattle.shop_history.specs.Lawful.{IsLawful}
use Rattle.shop_turn.specs.Desks.{DeskValue, seat_of}
use Rattle.shop_engine.specs.declared.report.Report.{Report}
use Rattle.shop_engine.specs.Workers.{WorkerState}
use Rattle.shop_lanes.specs.declared.berth.Completed.{Completed}
use Rattle.shop_polled.specs.declared.connection.Connection.{Connection}
use Rattle.shop_polled.specs.declared.finished.Finished.{Finished}
use Rattle.shop_polled.specs.declared.live.Live.{Live}
use Rattle.shop_polled.specs.Connections.{Begins, Completes, Gives, GivesBy, handed, refused}
use Rattle.shop_polled.specs.Lives.{IsMetBy}
use Rattle.shop_polled.specs.Meetings.{Parts}
use Rattle.shop_tasks.specs.Serves.{Serves}
use Rattle.shop_tasks.specs.StationValues.{StationValue, station_of}
use Rattle.shop_tasks.specs.declared.till.Till.TheVariants.{Own}
use Rattle.shop_tasks.proofs.cited.Stations.{unserved}
use Rattle.shop_poll.specs.Servings.{Leaves, PolledMeanings, left_of, polls_by, serves_by}

module _ {S K C : Type 0} (by : PolledMeanings S K C) where
  abbrev pub Held : Type 0
  Held = Finished DeskValue S K C EmulatorValue

  abbrev station : WorkerState DeskValue → C → EmulatorValue → StationValue C S K
  station worker clock gateway = station_of (record worker { reply = [] }) clock (Own gateway)

  abbrev pub IsServed : Parts DeskValue S K C EmulatorValue → Completed (StationValue C S K) S K Report → Type 0
  IsServed first done = Serves (serves_by by) (station first.worker first.clock first.gateway) first.source first.sink done.berth done.source done.sink done.report

  served : (first : Parts DeskValue S K C EmulatorValue) (finished : Held) → Completes (polls_by by) first (handed finished) finished.report → AreVerdicts [] finished.gateway.answers → IsServed first (left_of finished)
  served first finished completes verdicts = record {
    served = completes.served;
    complete = completes.complete;
    caller = completes.caller;
    lawful = completes.lawful;
    marks = completes.marks;
    read_fault = completes.read_fault;
    write_fault = completes.write_fault;
    reads = completes.reads;
    writes = completes.writes;
    fresh = completes.fresh;
    failures = completes.failures;
    asks = completes.asks;
    verdicts = verdicts;
  }

  completed : (first : Parts DeskValue S K C EmulatorValue) (finished : Held) (live : Option (Live DeskValue S K C EmulatorValue)) → IsSomeAnd live (IsMetBy (polls_by by) first)
      → IfSome live (λ on. GivesBy (polls_by by) on finished) → Completes (polls_by by) first (handed finished) finished.report
  completed first finished None begins gives = absurd begins
  completed first finished (Some on) begins gives = gives first begins

  -- a link whose connection was begun with these parts
  pub begun : (first : Parts DeskValue S K C EmulatorValue) (on : Connection DeskValue S K C EmulatorValue) → Begins (polls_by by) first on → (done : Completed (StationValue C S K) S K Report)
      → ((finished : Held) × Gives (polls_by by) on finished × Leaves finished done) → IsServed first done
  begun first on begins done (finished, gives, leaves) = subst (IsServed first) (sym leaves.0) (served first finished (completed first finished on.live begins gives) leaves.1)

  -- a link for whose connection there was no memory
  pub refused_link : (first : Parts DeskValue S K C EmulatorValue) (finished : Held) → finished ≡ refused first.worker first.source first.sink first.clock first.gateway
      → IsLawful (seat_of first.worker.store).opening (seat_of first.worker.store).seen → AreVerdicts [] first.gateway.answers
      → (done : Completed (StationValue C S K) S K Report) → done ≡ left_of finished → IsServed first done
  refused_link first finished is lawful verdicts done left =
      subst (IsServed first) (sym left)
      (subst (λ (f : Held). IsServed first (left_of f)) (sym is) (unserved (serves_by by) (station first.worker first.clock first.gateway) first.source first.sink lawful verdicts))
