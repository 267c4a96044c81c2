-- A worker before its first request, and the post that it is at.
use Rattle.std.specs.Prelude.{◌≡◌, ℕ, []}
use Rattle.shop_model.specs.lists.Catalogues.{Catalogue, opened}
use Rattle.shop_attempt.specs.Seats.{Seat, IsSeat}
use Rattle.shop_engine.specs.Workers.{Caller, WorkerState, at_first}

-- a caller, and how many calls it has made
pub record CallsState : Type 0 where
  pub caller : Caller
  pub made : ℕ

-- a worker that has served no request
abbrev pub first_state : {St : Type 0} → St → Caller → WorkerState St
first_state store caller = record { store = store; caller = caller; progress = at_first; kept = []; reply = [] }

-- the seat is one, and the caller's, and the index is of what its tables opened with
pub record IsPosted (seat : Seat) (index : Catalogue) (caller : Caller) : Type 0 where
  pub valid : IsSeat seat
  pub number : seat.caller ≡ caller.number
  pub named : index ≡ opened seat.opening
