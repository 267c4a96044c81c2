-- What becomes of a message of a kept connection.
use Rattle.std.specs.Prelude.{◌≡◌, ◌⊎◌, [], ◌∷◌, Some, None}
use Rattle.std.specs.declared.vec.Vec.{Vec}
use Rattle.shop_edges.specs.declared.clock.Clock as clock
use Rattle.shop_edges.specs.declared.gateway.Gateway as gateway
use Rattle.shop_edges.specs.declared.sink.Sink as sink
use Rattle.shop_disk.specs.DiskStates.{DiskState}
use Rattle.shop_history.specs.declared.acts.Entry.{Entry}
use Rattle.shop_message.specs.declared.messages.Message.{Message}
use Rattle.shop_book.specs.Solos.{SoloValue, seat_of}
use Rattle.shop_engine.specs.declared.report.Ended.TheVariants as ended
use Rattle.shop_engine.specs.declared.report.Point.{Point}
use Rattle.shop_engine.specs.Connections.{Adds, MessageAs, Output, Turn, turn_behind}
use Rattle.shop_engine.specs.Steps.{Step}
use Rattle.shop_engine.specs.Workers.{Standing, WorkerState, standing}
use Rattle.shop_keep.specs.declared.connection.Turned.{Turned}
use Rattle.shop_keep.specs.declared.connection.Turned.TheVariants as turned
use Rattle.shop_keep.specs.declared.kept.KeptEnd.{KeptEnd}
use Rattle.shop_keep.specs.declared.kept.KeptEnd.TheVariants as kept_end
use Rattle.shop_keep.specs.Appends.{BeginsLast, KeepsLog}

-- the disk that was handed back
abbrev pub disk_turned : {D : Type 0} → Turned D → D
disk_turned (turned.On journal) = journal
disk_turned (turned.Ends disk end) = disk

-- the connection ends so
abbrev pub has_end : {D : Type 0} → KeptEnd → Turned D → Type 0
has_end end (turned.On journal) = ⊥
has_end end (turned.Ends disk how) = how ≡ end

-- a change was made and has its point, and nothing of its reply was written
pub record IsWithheld (turn : Turn) (from to : Standing) (old new : Output) : Type 0 where
  pub step : Step
  pub entry : Entry
  pub adds : Adds turn from to old.points new.points step
  pub made : step.made ≡ entry ∷ []
  pub held : new.held ≡ old.held

module _ {D : Type 0} (state : D → DiskState) where
  -- where it goes on, or ends as a connection over memory alone does, what was made is on the disk; where the disk failed, or
  -- memory ran out before the append, the reply is withheld
  abbrev pub TurnedAs : Turn → Standing → Standing → Output → Output → D → Turned D → Type 0
  TurnedAs turn from to old new journal (turned.On journal') =
      MessageAs turn from to old new None × KeepsLog (state journal) (state journal') from.seat.seen to.seat.seen
  TurnedAs turn from to old new journal (turned.Ends disk (kept_end.Ended how)) =
      (MessageAs turn from to old new (Some how) × KeepsLog (state journal) (state disk) from.seat.seen to.seat.seen)
      ⊎ ((how ≡ ended.Memory) × IsWithheld turn from to old new × (disk ≡ journal))
  TurnedAs turn from to old new journal (turned.Ends disk kept_end.DiskFault) =
      (withheld : IsWithheld turn from to old new) × BeginsLast (state journal) (state disk) [] withheld.entry

-- of the message behind those that left the points, by the meanings of the sink, the clock and the gateway
abbrev pub TurnedBy : {D K C G Z : Type 0} → (D → DiskState) → sink.Ghosts K × clock.Ghosts C × gateway.Ghosts G → Message → D
    → WorkerState SoloValue × K × C × G × Vec Point Z → WorkerState SoloValue × K × C × G × Vec Point Z → Turned D → Type 0
TurnedBy state (k, c, g) message journal (worker, sink, clock, gateway, points) (worker', sink', clock', gateway', points') turned =
    TurnedAs state (turn_behind points.items message)
    (standing seat_of worker (c.readings clock) (g.answers gateway)) (standing seat_of worker' (c.readings clock') (g.answers gateway'))
    (record { points = points.items; held = k.held sink }) (record { points = points'.items; held = k.held sink' }) journal turned
