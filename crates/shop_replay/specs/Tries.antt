-- Attempts at the acts of entries.
use Rattle.std.specs.Prelude.{◌≡◌, ◌≢◌, ℕ, List, Some, None, IsSome, Result, Ok, Err}
use Rattle.shop_model.specs.declared.tax.TaxRule.{TaxRule}
use Rattle.shop_model.specs.declared.tax.TaxRule.TheVariants.{Flat}
use Rattle.shop_model.specs.asked.PurchaseAsked.{PurchaseAsked}
use Rattle.shop_model.specs.pages.Show.{check}
use Rattle.shop_history.specs.declared.acts.Act.{Act}
use Rattle.shop_history.specs.declared.acts.Act.TheVariants.{Cart, Enter, Confirm, Admin, Add}
use Rattle.shop_history.specs.declared.acts.Entry.{Entry}
use Rattle.shop_history.specs.Acts.{request_of}
use Rattle.shop_history.specs.Logs.{tables}
use Rattle.shop_attempt.specs.declared.attempts.Attempt.{Attempt}
use Rattle.shop_attempt.specs.Faithful.{Faithful}
use Rattle.shop_attempt.specs.Reads.{first_stale}
use Rattle.shop_attempt.specs.Seats.{Seat, IsSeat, Looked}
use Rattle.shop_book.specs.Solos.{SoloValue, seat_of}
use Rattle.shop_browse.specs.Attempts.{Asking, IsAttempt, IsPayable}
use Rattle.shop_replay.specs.declared.stops.Stop.{Stop}
use Rattle.shop_replay.specs.declared.stops.Stop.TheVariants as stop
use Rattle.shop_replay.specs.Replays.{IsInTime}

-- the word that was drawn for an act; where none was, any may be drawn for its request
abbrev pub draw_of : Act → ℕ
draw_of (Cart asked draw) = draw
draw_of (Enter asked draw) = draw
draw_of (Confirm asked draw auth tax) = draw
draw_of (Admin asked) = 0
draw_of (Add asked) = 0

-- the rule by which a purchase was taxed; any may be named for another act
abbrev pub tax_of : Act → TaxRule
tax_of (Confirm asked draw auth tax) = tax
tax_of _ = Flat

-- what is asked for by an act at a moment
abbrev pub asking_for : ℕ → Act → Asking
asking_for moment act =
    record { request = request_of act; moment = moment; draw = draw_of act; tax = tax_of act }

-- a faithful attempt at just the act of an entry, at its stamp, of which no read is stale
pub record IsTryOf (seat : Seat) (entry : Entry) (attempt : Attempt) : Type 0 where
  pub faithful : Faithful seat.opening seat.seen attempt
  pub fresh : first_stale seat.opening seat.seen attempt.reads ≡ None
  pub at : attempt.moment ≡ entry.stamp
  pub does : attempt.act ≡ Some entry.act

-- an attempt, or the tables refuse the act
abbrev pub TriesAs : Seat → Entry → Result Attempt Stop → Type 0
TriesAs seat entry (Ok attempt) = IsTryOf seat entry attempt
TriesAs seat entry (Err stop.Illegal) = check (tables seat.opening seat.seen) (request_of entry.act) ≢ None
TriesAs seat entry (Err stop.Memory) = Unit {0}

-- it may be settled by the entry's caller
pub record MaySettle (solo : SoloValue) (entry : Entry) (attempt : Attempt) : Type 0 where
  pub time : IsInTime solo.book.latest entry
  pub caller : solo.visitor.caller ≡ entry.caller
  pub tries : IsTryOf (seat_of solo) entry attempt

-- a purchase whose rows were read by the one caller of a shop
pub record MayBePaid (asking : Asking) (attempt : Attempt) : Type 0 where
  pub start : Seat
  pub now : Seat
  pub valid : IsSeat start
  pub alone : IsSome start.latest
  pub looked : Looked start now
  pub payable : IsPayable start now asking attempt

-- from whichever view of a seat its rows were read, the attempt does the purchase with this authorisation
abbrev pub IsPaidBy : Asking → PurchaseAsked → List ℕ → Attempt → Attempt → Type 0
IsPaidBy asking asked auth given attempt =
    (start now : Seat)
    → IsPayable start now asking given
    → IsAttempt start now asking attempt
    × (attempt.act ≡ Some (Confirm asked asking.draw auth asking.tax))
