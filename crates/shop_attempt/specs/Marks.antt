-- Marks: fronts and moments such that nothing behind the front has an earlier stamp.
use Rattle.std.specs.Prelude.{ℕ, ◌≤◌, List, length, drop, All, IsNone}
use Rattle.shop_history.specs.declared.acts.Entry.{Entry}
use Rattle.shop_attempt.specs.declared.attempts.Attempt.{Attempt}
use Rattle.shop_attempt.specs.declared.attempts.Settle.{Settle}
use Rattle.shop_attempt.specs.declared.attempts.Settle.TheVariants.{Done}
use Rattle.shop_attempt.specs.Seats.{Seat, Looked}

-- each entry of a log behind the front has a stamp of at least the moment
pub record IsMark (log : List Entry) (front moment : ℕ) : Type 0 where
  pub within : front ≤ length log
  pub behind : All (λ e. moment ≤ e.stamp) (drop front log)

-- what is marked is a mark of this log
pub record AreMarks (marked : ℕ → ℕ → Type 0) (log : List Entry) : Type 0 where
  pub are : (front moment : ℕ) → marked front moment → IsMark log front moment

-- marks that held still hold
pub record StillMarked (old new : ℕ → ℕ → Type 0) : Type 0 where
  pub kept : (front moment : ℕ) → old front moment → new front moment

-- and what is marked is a mark of the log seen, if it was one of the log seen before
pub record KeepsMarks (old new : ℕ → ℕ → Type 0) (seat seat' : Seat) : Type 0 where
  pub still : StillMarked old new
  pub are : AreMarks old seat.seen → AreMarks new seat'.seen

-- calls of a store only looked, and kept its marks
pub record Looks {Store : Type 0} (seat : Store → Seat) (marked : Store → ℕ → ℕ → Type 0) (old new : Store) : Type 0 where
  pub looked : Looked (seat old) (seat new)
  pub marks : KeepsMarks (marked old) (marked new) (seat old) (seat new)

-- a reading attempt that is done leaves a mark
abbrev pub LeavesMark : (ℕ → ℕ → Type 0) → Attempt → Settle → Type 0
LeavesMark marked attempt (Done drawn) = IsNone attempt.act → marked drawn.front attempt.moment
LeavesMark marked attempt _ = Unit {0}
