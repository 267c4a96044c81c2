-- Reads of single rows, and what they say of the tables.
use Rattle.std.proofs.Common.{◌≡◌, ◌+◌, Option, Some, None, refl, arith}
use Rattle.shop_model.specs.rows.Sound.{Sound}
use Rattle.shop_history.specs.declared.keys.Row.{Row}
use Rattle.shop_history.specs.declared.keys.Row.TheVariants as row
use Rattle.shop_history.specs.Keys.{shown}
use Rattle.shop_history.specs.Logs.{tables}
use Rattle.shop_history.proofs.cited.GoodTables.{good_log}
use Rattle.shop_attempt.specs.Seats.{Seat, IsSeat}

-- the tables after the log seen are sound
pub seat_sound : (seat : Seat) → IsSeat seat → Sound (tables seat.opening seat.seen)
seat_sound seat valid = (good_log seat.opening (seat.limit + 1) valid.good seat.seen valid.legal (omega (arith, valid.short))).sound

-- a row that is not shown is not there
pub row_missing : {A : Type 0} (make : A → Row) → ((x : A) → make x ≡ row.Absent → ⊥) → (o : Option A) → shown make o ≡ row.Absent → o ≡ None
row_missing make never None is = refl
row_missing make never (Some x) is = absurd (never x is)
