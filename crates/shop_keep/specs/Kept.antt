-- What one kept connection met, and what it left in the journal.
use Rattle.std.specs.Prelude.{◌≡◌, ◌⊎◌, ℕ, List, [], ◌∷◌, ◌++◌, All, Option}
use Rattle.shop_edges.specs.declared.clock.Clock as clock
use Rattle.shop_edges.specs.declared.gateway.Gateway as gateway
use Rattle.shop_edges.specs.declared.sink.Sink as sink
use Rattle.shop_edges.specs.declared.source.Source as source
use Rattle.shop_disk.specs.DiskStates.{DiskState}
use Rattle.shop_history.specs.declared.acts.Entry.{Entry}
use Rattle.shop_attempt.specs.Marks.{KeepsMarks}
use Rattle.shop_message.specs.declared.messages.Message.{Message}
use Rattle.shop_message.specs.Nexts.{GivesMessage}
use Rattle.shop_book.specs.Solos.{SoloValue, marks_of, seat_of}
use Rattle.shop_engine.specs.declared.report.Ended.TheVariants as ended
use Rattle.shop_engine.specs.declared.report.Point.{Point}
use Rattle.shop_engine.specs.Connections.{Adds, SoFar, turn_behind}
use Rattle.shop_engine.specs.Lists.{IsFreshPoint}
use Rattle.shop_engine.specs.Served.{Served, Streams}
use Rattle.shop_engine.specs.Steps.{Step}
use Rattle.shop_engine.specs.Workers.{Standing, WorkerState, standing}
use Rattle.shop_keep.specs.declared.kept.Kept.{Kept}
use Rattle.shop_keep.specs.declared.kept.KeptEnd.{KeptEnd}
use Rattle.shop_keep.specs.declared.kept.KeptEnd.TheVariants as kept_end
use Rattle.shop_keep.specs.Appends.{AppendsEach, BeginsLast, KeepsLog}

-- messages were answered and what they made is on the disk; one message more made an entry and has its point, and nothing of
-- its reply was written
pub record Withheld (old new : Standing) (streams streams' : Streams) (points : List Point) : Type 0 where
  pub mid : Standing
  pub left : Option (List ℕ)
  pub unread : List ℕ
  pub before : List Point
  pub so_far : SoFar old mid streams (record { left = left; held = streams'.held }) unread before
  pub entries : List Entry
  pub grew : mid.seat.seen ≡ old.seat.seen ++ entries
  pub message : Message
  pub rest : List ℕ
  pub gives : GivesMessage left streams'.left unread rest message
  pub step : Step
  pub adds : Adds (turn_behind before message) mid new before points step
  pub entry : Entry
  pub made : step.made ≡ entry ∷ []

-- it was served as one over memory alone, and all that it made is on the disk; or one reply more is withheld, since memory ran
-- out before its entry was appended, or since the disk failed, which may have that entry or not
abbrev pub KeptTo : Standing → Standing → Streams → Streams → DiskState → DiskState → List Point → KeptEnd → Type 0
KeptTo old new streams streams' disk disk' points (kept_end.Ended how) =
    (Served old new streams streams' how points × KeepsLog disk disk' old.seat.seen new.seat.seen)
    ⊎ ((how ≡ ended.Memory) × ((withheld : Withheld old new streams streams' points) × AppendsEach disk disk' withheld.entries))
KeptTo old new streams streams' disk disk' points kept_end.DiskFault =
    (withheld : Withheld old new streams streams' points) × BeginsLast disk disk' withheld.entries withheld.entry

-- the meanings of a source, a sink, a clock and a gateway
abbrev pub Meanings : Type 0 → Type 0 → Type 0 → Type 0 → Type 1
Meanings S K C G = source.Ghosts S × sink.Ghosts K × clock.Ghosts C × gateway.Ghosts G

-- who takes part in a connection
abbrev pub Party : Type 0 → Type 0 → Type 0 → Type 0 → Type 0
Party S K C G = WorkerState SoloValue × S × K × C × G

abbrev pub standing_in : {S K C G : Type 0} → Meanings S K C G → Party S K C G → Standing
standing_in (s, k, c, g) (worker, source, sink, clock, gateway) = standing seat_of worker (c.readings clock) (g.answers gateway)

abbrev pub streams_in : {S K C G : Type 0} → Meanings S K C G → Party S K C G → Streams
streams_in (s, k, c, g) (worker, source, sink, clock, gateway) = record { left = s.left source; held = k.held sink }

abbrev pub KeptBy : {D S K C G : Type 0} → (D → DiskState) → Meanings S K C G → D → Party S K C G → Party S K C G → Kept D → Type 0
KeptBy state by journal old new kept =
    KeptTo (standing_in by old) (standing_in by new) (streams_in by old) (streams_in by new) (state journal) (state kept.disk) kept.points kept.end

-- what was marked of the log stays so
abbrev pub StaysMarked : SoloValue → SoloValue → Type 0
StaysMarked old new = KeepsMarks (marks_of old) (marks_of new) (seat_of old) (seat_of new)

-- the lists that were kept, by which some answers were made, are fresh
abbrev pub AreFresh : SoloValue → List Point → Type 0
AreFresh now points = All (IsFreshPoint (marks_of now) (seat_of now).seen) points
