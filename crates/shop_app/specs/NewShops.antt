-- A new shop, the desks of its callers, and where they begin.
use Rattle.std.specs.Prelude.{◌≡◌, ℕ, ◌+◌, ◌<◌, List, [], get_or, length, All, Option, None}
use Rattle.atomic_table.specs.Seated.{TableId}
use Rattle.shop_edges.specs.declared.gateway.Answer.{Answer}
use Rattle.shop_model.specs.population.Population.{populated}
use Rattle.shop_attempt.specs.Seats.{Seat, IsSeat}
use Rattle.shop_book.specs.Books.{BookValue}
use Rattle.shop_turn.specs.Desks.{DeskValue, seat_of}
use Rattle.shop_turn.specs.Shops.{new_desk}
use Rattle.shop_engine.specs.Workers.{Caller, Standing, at_first}
use Rattle.shop_words.specs.declared.command.Session.{Session}

-- the book of a shop that nobody has used
unfoldable pub new_book : Session → BookValue
new_book session = record { opening = record { tables = populated session.seed session.scale; limit = session.limit }; log = []; latest = 0 }

-- a caller of the shop that the words choose
abbrev pub caller_of : Session → ℕ → Caller
caller_of session number = record { number = number; seed = session.seed; scale = session.scale }

-- the seat of a caller, at a desk that it has not used: over the population, with a log that is empty and may have as
-- many entries as the words say; others may come at any time, so that no latest stamp is known
unfoldable pub first_seat_at : List ℕ → Session → ℕ → Seat
first_seat_at shop session number = record {
  shop = shop;
  opening = populated session.seed session.scale;
  limit = session.limit;
  caller = number;
  seen = [];
  own = [];
  calls = 0;
  settles = 0;
  greatest = 0;
  latest = None;
}

-- where a caller's worker stands before its first request, with a clock that reads so and a gateway that has told this
abbrev pub first_standing_at : List ℕ → Session → ℕ → Option (List ℕ) → Option (List Answer) → Standing
first_standing_at shop session number clock told = record {
  caller = caller_of session number;
  progress = at_first;
  kept = [];
  seat = first_seat_at shop session number;
  clock = clock;
  told = told;
}

-- the first desks of a new shop for so many callers
pub record AreNewDesks (session : Session) (callers : ℕ) (desks : List DeskValue) : Type 0 where
  pub table : TableId
  pub at : (place : ℕ) (other : DeskValue) → place < length desks → get_or desks place other ≡ new_desk table (new_book session) callers (place + 1)
  pub valid : All (λ desk. IsSeat (seat_of desk)) desks
