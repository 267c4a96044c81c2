-- What holds of a connection that has not ended.
use Rattle.std.specs.Prelude.{◌≡◌, ℕ, ◌+◌, ◌<◌, ◌≤◌, ◌⊎◌, List, length, true, false, Option, Some, None}
use Rattle.futures.specs.declared.task.context.Context.{Context}
use Rattle.futures.specs.declared.task.Poll.{Poll}
use Rattle.futures.specs.declared.task.Poll.TheVariants.{Ready, Pending}
use Rattle.shop_edges.specs.Causes.{Rose}
use Rattle.shop_message.specs.declared.messages.Message.{Message}
use Rattle.shop_message.specs.Messages.{Refusing}
use Rattle.shop_message.specs.Nexts.{GivesMessage, Stops}
use Rattle.shop_model.specs.declared.refusal.Refusal.{Refusal}
use Rattle.shop_engine.specs.declared.report.Ended.{Ended}
use Rattle.shop_engine.specs.Connections.{SoFar}
use Rattle.shop_engine.specs.Steps.{ANSWERS}
use Rattle.shop_polled.specs.declared.live.Live.{Live}
use Rattle.shop_polled.specs.declared.live.Stage.{Stage}
use Rattle.shop_polled.specs.declared.live.Stage.TheVariants.{Reading, Telling}
use Rattle.shop_polled.specs.Meetings.{HasCause, Lasts, Meanings, Parts, parts, place_of, stands, streams_of}
use Rattle.shop_polled.specs.Polls.{EndsAt, FollowsReply, Met, Reads, Tells}

-- how many answers a poll makes; this project's own
abbrev pub TURNS : ℕ
TURNS = 16

-- no more of a reply is told than there is
abbrev pub FitsAs : Stage → List ℕ → Type 0
FitsAs Reading reply = Unit {0}
FitsAs (Telling at behind) reply = (at ≤ length reply) × FollowsReply behind

module _ {St S K C G : Type 0} where
  abbrev pub parts_of : Live St S K C G → Parts St S K C G
  parts_of live = parts live.worker live.source live.sink live.clock live.gateway

  abbrev pub met_of : Live St S K C G → Met
  met_of live = record { gathering = live.gather; points = live.points.items }

  abbrev pub IsReading : Live St S K C G → Type 0
  IsReading live = live.stage ≡ Reading

  -- what holds between two polls, whatever was met
  pub record CanGoOn (live : Live St S K C G) : Type 0 where
    pub few : length live.points.items ≤ ANSWERS
    pub still : live.gather.ended ≡ false
    pub room : 0 < length live.piece.items
    pub fits : FitsAs live.stage live.worker.reply

  -- the events that it waits for: those of the source while it reads, and those of the sink while it tells
  abbrev pub NeedsAs : (S → ℕ → Type 0) → (K → ℕ → Type 0) → Live St S K C G → Stage → ℕ → Type 0
  NeedsAs of_source of_sink live Reading = of_source live.source
  NeedsAs of_source of_sink live (Telling at behind) = of_sink live.sink

  abbrev pub NeedsOf : (S → ℕ → Type 0) → (K → ℕ → Type 0) → Live St S K C G → ℕ → Type 0
  NeedsOf of_source of_sink live = NeedsAs of_source of_sink live live.stage

  -- so many answers were made that others have their turn: their replies are written whole, and the task is woken
  pub record HasGrown (old new : Live St S K C G) (cx : Context) : Type 0 where
    pub more : length new.points.items ≡ length old.points.items + TURNS
    pub whole : IsReading new
    pub woken : cx.is_woken ≡ true

  -- it is put off only where a stream put it off, or behind so many answers
  abbrev pub IsPutOffBy : (S → ℕ) → (K → ℕ) → Live St S K C G → Live St S K C G → Context → Type 0
  IsPutOffBy of_source of_sink old new cx =
      Rose (of_source old.source) (of_source new.source) ⊎ Rose (of_sink old.sink) (of_sink new.sink) ⊎ HasGrown old new cx

module _ {St S K C G : Type 0} (by : Meanings St S K C G) where
  -- what was met since the first parts, while it reads or tells a reply
  abbrev pub MetAs : Parts St S K C G → Live St S K C G → Stage → Type 0
  MetAs first live Reading = Reads (place_of by first) (place_of by (parts_of live)) (met_of live)
  MetAs first live (Telling at behind) = Tells (place_of by first) (place_of by (parts_of live)) (met_of live) live.worker.reply at behind

  -- it was begun with these parts, and this is what it has met
  pub record IsMetBy (first : Parts St S K C G) (live : Live St S K C G) : Type 0 where
    pub met : MetAs first live live.stage
    pub lasts : Lasts by first (parts_of live) live.points.items

  -- it has ended so
  pub record HasEnded (first : Parts St S K C G) (live : Live St S K C G) (end : Ended) : Type 0 where
    pub ends : EndsAt (place_of by first) (place_of by (parts_of live)) (met_of live) end
    pub lasts : Lasts by first (parts_of live) live.points.items
    pub cause : HasCause by first (parts_of live) end

  -- it has ended, or goes on
  abbrev pub IfGone : Parts St S K C G → Live St S K C G → Option Ended → Type 0
  IfGone first live None = IsMetBy first live
  IfGone first live (Some end) = HasEnded first live end

  abbrev pub IfMet : Parts St S K C G → Live St S K C G → Poll (Option Ended) → Type 0
  IfMet first live (Ready gone) = IfGone first live gone
  IfMet first live Pending = IsMetBy first live

  abbrev pub IfEnded : Parts St S K C G → Live St S K C G → Poll Ended → Type 0
  IfEnded first live (Ready end) = HasEnded first live end
  IfEnded first live Pending = IsMetBy first live

  -- a part of a poll goes on with what was met, whatever the first parts were
  abbrev pub Carries : Live St S K C G → Live St S K C G → Poll (Option Ended) → Type 0
  Carries old new result = (first : Parts St S K C G) → IsMetBy first old → IfMet first new result

  -- and so does a whole one
  abbrev pub Ends : Live St S K C G → Live St S K C G → Poll Ended → Type 0
  Ends old new result = (first : Parts St S K C G) → IsMetBy first old → IfEnded first new result

  -- the messages before were answered, and this one came
  pub record Takes (first : Parts St S K C G) (live : Live St S K C G) (message : Message) : Type 0 where
    pub base : Option (List ℕ)
    pub unread : List ℕ
    pub so_far : SoFar (stands by first) (stands by (parts_of live)) (streams_of by first) (record { left = base; held = by.2.held live.sink }) unread live.points.items
    pub gives : GivesMessage base (by.1.left live.source) unread live.gather.held message
    pub lasts : Lasts by first (parts_of live) live.points.items

  abbrev pub Answers : Message → Live St S K C G → Live St S K C G → Option Ended → Type 0
  Answers message old new gone = (first : Parts St S K C G) → Takes first old message → IfGone first new gone

  -- the messages before were answered, and behind them one is refused
  pub record Meets (first : Parts St S K C G) (live : Live St S K C G) (refusal : Refusal) : Type 0 where
    pub base : Option (List ℕ)
    pub unread : List ℕ
    pub so_far : SoFar (stands by first) (stands by (parts_of live)) (streams_of by first) (record { left = base; held = by.2.held live.sink }) unread live.points.items
    pub stops : Stops base (by.1.left live.source) unread live.gather.held (Refusing refusal)
    pub lasts : Lasts by first (parts_of live) live.points.items

  abbrev pub Refuses : Refusal → Live St S K C G → Live St S K C G → Option Ended → Type 0
  Refuses refusal old new gone = (first : Parts St S K C G) → Meets first old refusal → IfGone first new gone
