-- What a seat means over a book that a rival changes too.
use Rattle.std.specs.Prelude.{◌≡◌, ◌≢◌, ℕ, None, IsSome}
use Rattle.shop_model.specs.lists.Catalogues.{Catalogue, opened}
use Rattle.shop_history.specs.Logs.{entries_of}
use Rattle.shop_attempt.specs.Seats.{Seat}
use Rattle.shop_book.specs.Solos.{SoloValue}

-- the seat of the caller, and how many changes of the rival are to come
pub record RivalledValue : Type 0 where
  pub solo : SoloValue
  pub changes : ℕ

-- caller 1 has the seat, and the index is of what the tables opened with
pub record IsFitting (solo : SoloValue) (index : Catalogue) : Type 0 where
  pub caller : solo.visitor.caller ≡ 1
  pub named : index ≡ opened solo.book.opening.tables

-- the same seat, of one caller among others
abbrev pub among : Seat → Seat
among seat = record seat { latest = None }

-- where the caller is the only one, it still is, and the log seen has no more entries of others than before
abbrev pub LeavesOthers : Seat → Seat → Type 0
LeavesOthers old new =
    IsSome old.latest
    → IsSome new.latest × ((caller : ℕ) → caller ≢ old.caller → entries_of caller new.seen ≡ entries_of caller old.seen)
