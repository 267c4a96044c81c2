-- What a session does, by its status.
use Rattle.std.specs.Prelude.{◌≡◌, ◌⊎◌, ℕ, ◌≤◌, List, [], ◌∷◌, map, All, Option, Some}
use Rattle.std.specs.List.{flat_map}
use Rattle.shop_edges.specs.Causes.{Rose}
use Rattle.shop_edges.specs.declared.gateway.Answer.{Answer}
use Rattle.shop_model.specs.population.Population.{populated}
use Rattle.shop_history.specs.Lawful.{IsLawful}
use Rattle.shop_attempt.specs.Seats.{Seat}
use Rattle.shop_book.specs.Solos.{SoloValue, seat_of}
use Rattle.shop_engine.specs.declared.report.Ended.{Ended}
use Rattle.shop_engine.specs.declared.report.Ended.TheVariants as ended
use Rattle.shop_engine.specs.declared.report.Point.{Point}
use Rattle.shop_engine.specs.declared.report.PointKind.{PointKind}
use Rattle.shop_engine.specs.declared.report.PointKind.TheVariants.{Plain, Change, Busy}
use Rattle.shop_engine.specs.Decided.{tries_alone}
use Rattle.shop_engine.specs.Failures.{RoseBy, failures}
use Rattle.shop_engine.specs.Fresh.{IsFreshIn}
use Rattle.shop_engine.specs.Served.{Served}
use Rattle.shop_engine.specs.Steps.{plain_point}
use Rattle.shop_engine.specs.Workers.{Caller, Standing, WorkerState, at_first}
use Rattle.shop_words.specs.declared.command.Session.{Session}
use Rattle.shop_app.specs.declared.status.Status.{Status}
use Rattle.shop_app.specs.declared.status.Status.TheVariants as status
use Rattle.shop_app.specs.Outside.{Run}

-- caller 1 of the shop that the words choose
unfoldable pub first_caller : Session → Caller
first_caller session = record { number = 1; seed = session.seed; scale = session.scale }

-- its seat before the session: alone, over the population of its seed and scale, with a log that is empty
-- and may have as many entries as they say
unfoldable pub first_seat : Session → Seat
first_seat session = record {
  shop = [];
  opening = populated session.seed session.scale;
  limit = session.limit;
  caller = 1;
  seen = [];
  own = [];
  calls = 0;
  settles = 0;
  greatest = 0;
  latest = Some 0;
}

-- a worker of this caller at this seat, that has served no request
pub record IsFirst (session : Session) (worker : WorkerState SoloValue) : Type 0 where
  pub caller : worker.caller ≡ first_caller session
  pub progress : worker.progress ≡ at_first
  pub kept : worker.kept ≡ []
  pub seat : seat_of worker.store ≡ first_seat session

-- where it stands before the session
abbrev pub first_standing : Session → Option (List ℕ) → Option (List Answer) → Standing
first_standing session clock told =
    record { caller = first_caller session; progress = at_first; kept = []; seat = first_seat session; clock = clock; told = told }

-- a settle decided the answer, a list that is kept, or a gateway that failed
abbrev pub IsSettled : PointKind → Type 0
IsSettled (Busy conflicts) = ⊥
IsSettled Plain = ⊥
IsSettled _ = Unit {0}

-- an answer was decided at the first try, by one settle, or by none where the gateway failed, or a list is kept
pub record IsAtOnce (point : Point) : Type 0 where
  pub settled : IsSettled point.kind
  pub tries : point.tries ≡ tries_alone point.kind

-- the moment of a change
abbrev pub moment_as : ℕ → PointKind → List ℕ
moment_as moment Change = moment ∷ []
moment_as moment _ = []

-- the moments of the changes among these points, in order
abbrev pub moments_of : List Point → List ℕ
moments_of points = flat_map (λ p. moment_as p.moment p.kind) points

-- its one connection was served to this end: no settle was stale, the log is lawful, and it is what the
-- changes made, each with its moment as its stamp; the gateway's count of faults never fell, and rose by each that is told
pub record ServedTo (session : Session) (old new : Run) (end : Ended) : Type 0 where
  pub points : List Point
  pub after : Standing
  pub served : Served (first_standing session old.outside.clock old.outside.told) after old.streams new.streams end points
  pub clock : after.clock ≡ new.outside.clock
  pub told : after.told ≡ new.outside.told
  pub failed : RoseBy old.outside.failures (failures points) new.outside.failures
  pub kept : old.outside.failures ≤ new.outside.failures
  pub alone : All (λ p. (p ≡ plain_point) ⊎ IsAtOnce p) points
  pub lawful : IsLawful (populated session.seed session.scale) after.seat.seen
  pub fresh : All (IsFreshIn after.seat.seen) points
  pub log : after.seat.seen ≡ flat_map (λ s. s.made) served.steps
  pub stamps : map (λ e. e.stamp) after.seat.seen ≡ moments_of points

-- what the status of a session says; where memory runs out before there is a worker, nothing is read or written
abbrev pub IsSession : Session → Run → Run → Status → Type 0
IsSession session old new status.Done = ServedTo session old new ended.Closed ⊎ ServedTo session old new ended.Asked
IsSession session old new status.Unserved =
    ServedTo session old new ended.Cut ⊎ ((number : ℕ) × ServedTo session old new (ended.Refused number))
    ⊎ ServedTo session old new ended.Spent
IsSession session old new status.BadWords = ⊥
IsSession session old new status.NetworkFault = ⊥
IsSession session old new status.WorkerFault = ⊥
IsSession session old new status.DiskFault = ⊥
IsSession session old new status.NotThisJournal = ⊥
IsSession session old new status.ReadFault = Rose old.reads new.reads × ServedTo session old new ended.ReadFault
IsSession session old new status.WriteFault = Rose old.writes new.writes × ServedTo session old new ended.WriteFault
IsSession session old new status.Memory = (new ≡ old) ⊎ ServedTo session old new ended.Memory
