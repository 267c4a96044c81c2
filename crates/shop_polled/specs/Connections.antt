-- What contracts say of a connection that is polled.
use Rattle.std.specs.Prelude.{◌≡◌, ℕ, ◌≤◌, List, [], Option, Some, None, IfSome, IsSomeAnd}
use Rattle.futures.specs.declared.task.context.Context.{Context}
use Rattle.shop_edges.specs.Causes.{Rose}
use Rattle.shop_history.specs.Lawful.{IsLawful}
use Rattle.shop_engine.specs.declared.report.Ended.{Ended}
use Rattle.shop_engine.specs.declared.report.Ended.TheVariants as ended
use Rattle.shop_engine.specs.declared.report.Point.{Point}
use Rattle.shop_engine.specs.declared.report.Report.{Report}
use Rattle.shop_engine.specs.Failures.{RoseBy, failures}
use Rattle.shop_engine.specs.Served.{Served}
use Rattle.shop_engine.specs.Stores.{AreFreshBy, Keeps}
use Rattle.shop_engine.specs.Undisturbed.{AreWhole, IsUndisturbed}
use Rattle.shop_engine.specs.Workers.{WorkerState}
use Rattle.shop_polled.specs.declared.connection.Connection.{Connection}
use Rattle.shop_polled.specs.declared.finished.Finished.{Finished}
use Rattle.shop_polled.specs.declared.live.Live.{Live}
use Rattle.shop_polled.specs.Lives.{CanGoOn, HasEnded, IsMetBy, IsPutOffBy, NeedsOf}
use Rattle.shop_polled.specs.Meetings.{Meanings, Parts, parts, stands, streams_of}

module _ {St S K C G : Type 0} where
  abbrev pub handed : Finished St S K C G → Parts St S K C G
  handed finished = parts finished.worker finished.source finished.sink finished.clock finished.gateway

  -- it has not ended, and may be polled
  abbrev pub CanPoll : Connection St S K C G → Type 0
  CanPoll connection = IsSomeAnd connection.live CanGoOn

  abbrev pub IsOver : Connection St S K C G → Type 0
  IsOver connection = connection.live ≡ None

  -- the points so far
  abbrev pub points_as : Option (Live St S K C G) → List Point
  points_as (Some live) = live.points.items
  points_as None = []

  abbrev pub points_of : Connection St S K C G → List Point
  points_of connection = points_as connection.live

  -- the events that it waits for
  abbrev pub Needs : (S → ℕ → Type 0) → (K → ℕ → Type 0) → Connection St S K C G → ℕ → Type 0
  Needs of_source of_sink connection event = IsSomeAnd connection.live (λ live. NeedsOf of_source of_sink live event)

  -- a poll is put off only where a stream put it off, or behind sixteen answers more, which are written whole
  abbrev pub IsPutOff : (S → ℕ) → (K → ℕ) → Connection St S K C G → Connection St S K C G → Context → Type 0
  IsPutOff of_source of_sink old new cx = IfSome old.live (λ before. IsSomeAnd new.live (λ after. IsPutOffBy of_source of_sink before after cx))

  -- nothing was read, and all is handed back
  abbrev pub refused : WorkerState St → S → K → C → G → Finished St S K C G
  refused worker source sink clock gateway =
      record { worker = worker; source = source; sink = sink; clock = clock; gateway = gateway; report = record { end = ended.Memory; points = [] } }

module _ {St S K C G : Type 0} (by : Meanings St S K C G) where
  -- it served its messages to the end that is told: what the worker met and left, and all that a connection which is
  -- served without polls leaves
  pub record Completes (first last : Parts St S K C G) (report : Report) : Type 0 where
    pub served : Served (stands by first) (stands by last) (streams_of by first) (streams_of by last) report.end report.points
    pub complete : IsUndisturbed (by.0.seat first.worker.store) (by.0.seat last.worker.store)
        → ¬ (Rose (by.4.faults first.gateway) (by.4.faults last.gateway)) → AreWhole report.points
    pub caller : last.worker.caller ≡ first.worker.caller
    pub lawful : IsLawful (by.0.seat last.worker.store).opening (by.0.seat last.worker.store).seen
    pub marks : Keeps by.0 first.worker.store last.worker.store
    pub read_fault : report.end ≡ ended.ReadFault → Rose (by.1.faults first.source) (by.1.faults last.source)
    pub write_fault : report.end ≡ ended.WriteFault → Rose (by.2.faults first.sink) (by.2.faults last.sink)
    pub reads : by.1.faults first.source ≤ by.1.faults last.source
    pub writes : by.2.faults first.sink ≤ by.2.faults last.sink
    pub fresh : AreFreshBy by.0 last.worker.store report.points
    pub failures : RoseBy (by.4.faults first.gateway) (failures report.points) (by.4.faults last.gateway)
    pub asks : by.4.faults first.gateway ≤ by.4.faults last.gateway

  -- whatever its first parts were, it is completed by what is handed out at this end
  abbrev pub Finishes : Live St S K C G → Ended → Finished St S K C G → Type 0
  Finishes live end finished = (first : Parts St S K C G) → HasEnded by first live end → Completes first (handed finished) finished.report

  -- and so from where it stands now, if it completes
  abbrev pub GivesBy : Live St S K C G → Finished St S K C G → Type 0
  GivesBy live finished = (first : Parts St S K C G) → IsMetBy by first live → Completes first (handed finished) finished.report

  abbrev pub Gives : Connection St S K C G → Finished St S K C G → Type 0
  Gives connection finished = IfSome connection.live (λ live. GivesBy live finished)

  -- this is handed out at this end
  abbrev pub HandsOut : Connection St S K C G → Ended → Finished St S K C G → Type 0
  HandsOut connection end finished = IfSome connection.live (λ live. Finishes live end finished)

  -- what is handed out then might have come of it before
  abbrev pub EndsIn : Connection St S K C G → Connection St S K C G → Ended → Type 0
  EndsIn old new end = (finished : Finished St S K C G) → HandsOut new end finished → Gives old finished

  -- what may come of it then might have come of it before
  abbrev pub GoesOn : Connection St S K C G → Connection St S K C G → Type 0
  GoesOn old new = (finished : Finished St S K C G) → Gives new finished → Gives old finished

  -- it has met nothing since these parts
  abbrev pub Begins : Parts St S K C G → Connection St S K C G → Type 0
  Begins first connection = IsSomeAnd connection.live (IsMetBy by first)
