-- What serves a link at a station that is polled.
use Rattle.std.specs.Prelude.{◌≡◌, ℕ, [], Some}
use Rattle.futures.specs.declared.task.context.Context.{Context}
use Rattle.shop_edges.specs.declared.clock.Clock as clock
use Rattle.shop_gateway.specs.Emulators.{EmulatorValue}
use Rattle.shop_gateway.specs.Verdicts.{AreVerdicts}
use Rattle.shop_turn.specs.Desks.{DeskValue, marks_of, seat_of}
use Rattle.shop_engine.specs.declared.report.Ended.{Ended}
use Rattle.shop_engine.specs.declared.report.Report.{Report}
use Rattle.shop_lanes.specs.declared.berth.Completed.{Completed}
use Rattle.shop_polled.specs.declared.finished.Finished.{Finished}
use Rattle.shop_polled.specs.declared.sink.PolledSink as sink
use Rattle.shop_polled.specs.declared.source.PolledSource as source
use Rattle.shop_polled.specs.Connections as connection
use Rattle.shop_polled.specs.Meetings as meetings
use Rattle.shop_tasks.specs.Serves.{Meanings}
use Rattle.shop_tasks.specs.StationValues.{StationValue, station_of}
use Rattle.shop_tasks.specs.declared.till.Till.TheVariants.{Own}
use Rattle.shop_poll.specs.declared.serving.Serving.{Serving}
use Rattle.shop_poll.specs.declared.serving.Stage.{Stage}
use Rattle.shop_poll.specs.declared.serving.Stage.TheVariants.{Live, Over}

-- of a source and a sink that are polled, and of a clock
abbrev pub PolledMeanings : Type 0 → Type 0 → Type 0 → Type 1
PolledMeanings S K C = source.Ghosts S × sink.Ghosts K × clock.Ghosts C

-- a source and a sink that are polled mean what those mean that are not
abbrev pub serves_by : {S K C : Type 0} → PolledMeanings S K C → Meanings C S K
serves_by by = (by.2, record { left = by.0.left; faults = by.0.faults; reads = by.0.reads }, record { held = by.1.held; faults = by.1.faults })

-- a worker at a desk, whose gateway is its own
abbrev pub polls_by : {S K C : Type 0} → PolledMeanings S K C → meetings.Meanings DeskValue S K C EmulatorValue
polls_by by = (record { seat = seat_of; marked = marks_of }, by.0, by.1, by.2, record { answers = λ e. Some e.answers; faults = λ _. 0 })

module _ {S K C : Type 0} where
  -- what is left when its link was served
  abbrev pub left_of : Finished DeskValue S K C EmulatorValue → Completed (StationValue C S K) S K Report
  left_of finished = record {
    berth = station_of (record finished.worker { reply = [] }) finished.clock (Own finished.gateway);
    source = finished.source;
    sink = finished.sink;
    report = finished.report;
  }

  -- what is left of a link whose connection has finished so; and the gateway's answers are verdicts
  abbrev pub Leaves : Finished DeskValue S K C EmulatorValue → Completed (StationValue C S K) S K Report → Type 0
  Leaves finished done = (done ≡ left_of finished) × AreVerdicts [] finished.gateway.answers

  -- it may be polled, and has ended where its connection is over, or was refused
  abbrev pub CanPollAs : Stage DeskValue S K C → Type 0
  CanPollAs (Live on) = connection.CanPoll on
  CanPollAs (Over finished) = Unit {0}

  abbrev pub CanPoll : Serving DeskValue S K C → Type 0
  CanPoll serving = CanPollAs serving.stage

  abbrev pub HasEndedAs : Stage DeskValue S K C → Type 0
  HasEndedAs (Live on) = ⊥
  HasEndedAs (Over finished) = Unit {0}

  abbrev pub HasEnded : Serving DeskValue S K C → Type 0
  HasEnded serving = HasEndedAs serving.stage

  -- what its connection waits for; one that is over waits for nothing
  abbrev pub NeedsAs : (S → ℕ → Type 0) → (K → ℕ → Type 0) → Stage DeskValue S K C → ℕ → Type 0
  NeedsAs of_source of_sink (Live on) = connection.Needs of_source of_sink on
  NeedsAs of_source of_sink (Over finished) = λ event. ⊥

  abbrev pub Needs : (S → ℕ → Type 0) → (K → ℕ → Type 0) → Serving DeskValue S K C → ℕ → Type 0
  Needs of_source of_sink serving = NeedsAs of_source of_sink serving.stage

  -- a poll was put off: that of its connection, in some task
  abbrev pub IsPutOffAs : (S → ℕ) → (K → ℕ) → Stage DeskValue S K C → Stage DeskValue S K C → Type 0
  IsPutOffAs of_source of_sink (Live old) (Live new) = (cx : Context) × connection.IsPutOff of_source of_sink old new cx
  IsPutOffAs of_source of_sink (Live old) (Over finished) = ⊥
  IsPutOffAs of_source of_sink (Over finished) new = ⊥

  abbrev pub IsPutOff : (S → ℕ) → (K → ℕ) → Serving DeskValue S K C → Serving DeskValue S K C → Type 0
  IsPutOff of_source of_sink old new = IsPutOffAs of_source of_sink old.stage new.stage

  -- what it may leave: what is left of its connection, however that finishes
  abbrev pub GivesAs : PolledMeanings S K C → Stage DeskValue S K C → Completed (StationValue C S K) S K Report → Type 0
  GivesAs by (Live on) done = (finished : Finished DeskValue S K C EmulatorValue) × connection.Gives (polls_by by) on finished × Leaves finished done
  GivesAs by (Over finished) done = Leaves finished done

  abbrev pub Gives : PolledMeanings S K C → Serving DeskValue S K C → Completed (StationValue C S K) S K Report → Type 0
  Gives by serving done = GivesAs by serving.stage done

  -- its connection has ended so, and is over
  abbrev pub EndsLink : PolledMeanings S K C → Stage DeskValue S K C → Ended → Stage DeskValue S K C → Type 0
  EndsLink by (Live on) end new = (finished : Finished DeskValue S K C EmulatorValue) × (new ≡ Over finished) × connection.HandsOut (polls_by by) on end finished
  EndsLink by (Over finished) end new = new ≡ Over finished
