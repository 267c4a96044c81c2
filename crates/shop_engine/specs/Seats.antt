-- What settles leave of a seat.
use Rattle.std.specs.Prelude.{◌≡◌, ℕ, ◌+◌, ◌≤◌, min, max, List, ◌++◌, Some, IsSome}
use Rattle.shop_history.specs.declared.acts.Entry.{Entry}
use Rattle.shop_history.specs.Logs.{entries_of}
use Rattle.shop_attempt.specs.Seats.{Seat, Follows, last_count}

-- so many settles at moments up to this one added these entries of the caller, in order, and no others of
-- the caller; their count rose by so many, or stands at its last value; a latest stamp that was told is told,
-- and rose to no more than this moment; where the caller is the only one, nothing else came into the log
pub record Stays (old new : Seat) (entries : List Entry) (settles moment : ℕ) : Type 0 where
  pub follows : Follows old new
  pub mine : entries_of new.caller new.seen ≡ entries_of old.caller old.seen ++ entries
  pub own : new.own ≡ old.own ++ entries
  pub rose : min (old.settles + settles) last_count ≤ new.settles
  pub kept : old.settles ≤ new.settles
  pub most : new.settles ≤ old.settles + settles
  pub greatest : new.greatest ≤ max old.greatest moment
  pub stamp : (told : ℕ) → old.latest ≡ Some told → (now : ℕ) × (new.latest ≡ Some now) × (told ≤ now) × (now ≤ max told moment)
  pub alone : IsSome old.latest → new.seen ≡ old.seen ++ entries
