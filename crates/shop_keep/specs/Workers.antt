-- The worker of a kept connection before its first request.
use Rattle.std.specs.Prelude.{◌≡◌, ℕ, List, [], Option, Result, Ok, Err}
use Rattle.shop_edges.specs.declared.gateway.Answer.{Answer}
use Rattle.shop_history.specs.declared.acts.Entry.{Entry}
use Rattle.shop_attempt.specs.Seats.{Seat}
use Rattle.shop_book.specs.Solos.{SoloValue, seat_of, seated}
use Rattle.shop_replay.specs.Replays.{IsLog, book_of}
use Rattle.shop_engine.specs.Workers.{Standing, WorkerState, at_first}
use Rattle.shop_words.specs.declared.command.Session.{Session}
use Rattle.shop_app.specs.declared.status.Status.{Status}
use Rattle.shop_app.specs.declared.status.Status.TheVariants as status
use Rattle.shop_app.specs.Session.{first_caller}
use Rattle.shop_keep.specs.Files.{opening_of}

-- its seat: alone, over the shop that the words choose, with the log of these entries
unfoldable pub kept_seat : Session → List Entry → Seat
kept_seat session first = seat_of (seated (book_of (opening_of session) first) 1)

-- a worker of caller 1 at this seat, that has served no request
pub record IsKeptFirst (session : Session) (first : List Entry) (worker : WorkerState SoloValue) : Type 0 where
  pub caller : worker.caller ≡ first_caller session
  pub progress : worker.progress ≡ at_first
  pub kept : worker.kept ≡ []
  pub seat : seat_of worker.store ≡ kept_seat session first

-- where it stands
abbrev pub kept_standing : Session → List Entry → Option (List ℕ) → Option (List Answer) → Standing
kept_standing session first clock told =
    record { caller = first_caller session; progress = at_first; kept = []; seat = kept_seat session first; clock = clock; told = told }

-- there is one where the entries are a legal log within the limit, and memory suffices
abbrev pub WorksAs : Session → List Entry → Result (WorkerState SoloValue) Status → Type 0
WorksAs session entries (Ok worker) = IsKeptFirst session entries worker × IsLog (opening_of session) entries
WorksAs session entries (Err status.NotThisJournal) = IsLog (opening_of session) entries → ⊥
WorksAs session entries (Err status.Memory) = Unit {0}
WorksAs session entries (Err _) = ⊥
