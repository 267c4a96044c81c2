-- What contracts see of a worker.
use Rattle.std.specs.Prelude.{ℕ, List, Option}
use Rattle.shop_edges.specs.declared.gateway.Answer.{Answer}
use Rattle.shop_cache.specs.Caches.{Entries}
use Rattle.shop_model.specs.population.Scales.{ScaleRow}
use Rattle.shop_attempt.specs.Seats.{Seat}

-- whose requests it serves, and what their words are drawn by
pub record Caller : Type 0 where
  pub number : ℕ
  pub seed : ℕ
  pub scale : ScaleRow

-- how many requests were accepted, and the last moment, 0 at first
pub record Progress : Type 0 where
  pub accepted : ℕ
  pub last : ℕ

-- its store, its caller and progress, the lists that it keeps, and the reply that it made last
pub record WorkerState (St : Type 0) : Type 0 where
  pub store : St
  pub caller : Caller
  pub progress : Progress
  pub kept : Entries
  pub reply : List ℕ

abbrev pub at_first : Progress
at_first = record { accepted = 0; last = 0 }

-- where a worker stands between two messages: its caller and progress, the lists that it keeps, its seat, and, where
-- they are known, what the clock will read, and what the gateway answered so far
pub record Standing : Type 0 where
  pub caller : Caller
  pub progress : Progress
  pub kept : Entries
  pub seat : Seat
  pub clock : Option (List ℕ)
  pub told : Option (List Answer)

-- by the meaning of its store
abbrev pub standing : {St : Type 0} → (St → Seat) → WorkerState St → Option (List ℕ) → Option (List Answer) → Standing
standing seat_of worker clock told =
    record { caller = worker.caller; progress = worker.progress; kept = worker.kept; seat = seat_of worker.store; clock = clock; told = told }
