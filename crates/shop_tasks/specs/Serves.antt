-- What a station promises of a connection, by the meanings of its clock and of the two sides of a link.
use Rattle.std.specs.Prelude.{◌≡◌, ℕ, ◌≤◌, [], All, IfSome}
use Rattle.shop_edges.specs.Causes.{Rose}
use Rattle.shop_edges.specs.declared.clock.Clock as clock
use Rattle.shop_edges.specs.declared.sink.Sink as sink
use Rattle.shop_edges.specs.declared.source.Source as source
use Rattle.shop_gateway.specs.Verdicts.{AreVerdicts}
use Rattle.shop_history.specs.Lawful.{IsLawful}
use Rattle.shop_attempt.specs.Marks.{KeepsMarks}
use Rattle.shop_turn.specs.Desks.{marks_of, seat_of}
use Rattle.shop_engine.specs.declared.report.Ended.TheVariants as ended
use Rattle.shop_engine.specs.declared.report.Report.{Report}
use Rattle.shop_engine.specs.Failures.{RoseBy, failures}
use Rattle.shop_engine.specs.Lists.{IsFreshPoint}
use Rattle.shop_engine.specs.Served.{Served, Streams}
use Rattle.shop_engine.specs.Undisturbed.{AreWhole, IsUndisturbed}
use Rattle.shop_engine.specs.Workers.{Standing, standing}
use Rattle.shop_tasks.specs.StationValues.{StationValue}
use Rattle.shop_tasks.specs.Tills.{answers_of, faults_of}

-- of a clock, a source and a sink
abbrev pub Meanings : Type 0 → Type 0 → Type 0 → Type 1
Meanings C I O = clock.Ghosts C × source.Ghosts I × sink.Ghosts O

module _ {C I O : Type 0} (by : Meanings C I O) where
  -- where the worker of a station stands
  abbrev pub stands : StationValue C I O → Standing
  stands station = standing seat_of station.worker (by.0.readings station.clock) (answers_of station.till)

  -- how often its gateway has failed
  abbrev pub failed : StationValue C I O → ℕ
  failed station = faults_of by.1.faults by.2.faults station.till

  -- what is known of a connection
  abbrev pub streams : I → O → Streams
  streams source sink = record { left = by.1.left source; held = by.2.held sink }

  -- it served a connection to its end: what the worker met and left, from the streams as they came to those that are
  -- given back; what a gateway of its own answered are the verdicts of an empty ledger
  pub record Serves (old : StationValue C I O) (source : I) (sink : O) (new : StationValue C I O) (source' : I) (sink' : O) (report : Report) : Type 0 where
    pub served : Served (stands old) (stands new) (streams source sink) (streams source' sink') report.end report.points
    pub complete : IsUndisturbed (stands old).seat (stands new).seat → ¬ (Rose (failed old) (failed new)) → AreWhole report.points
    pub caller : new.worker.caller ≡ old.worker.caller
    pub lawful : IsLawful (stands new).seat.opening (stands new).seat.seen
    pub marks : KeepsMarks (marks_of old.worker.store) (marks_of new.worker.store) (stands old).seat (stands new).seat
    pub read_fault : report.end ≡ ended.ReadFault → Rose (by.1.faults source) (by.1.faults source')
    pub write_fault : report.end ≡ ended.WriteFault → Rose (by.2.faults sink) (by.2.faults sink')
    pub reads : by.1.faults source ≤ by.1.faults source'
    pub writes : by.2.faults sink ≤ by.2.faults sink'
    pub fresh : All (IsFreshPoint (marks_of new.worker.store) (stands new).seat.seen) report.points
    pub failures : RoseBy (failed old) (failures report.points) (failed new)
    pub asks : failed old ≤ failed new
    pub verdicts : IfSome (answers_of new.till) (AreVerdicts [])
