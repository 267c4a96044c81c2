-- What a seat means over a book that one caller has for now.
use Rattle.std.specs.Prelude.{ℕ, ◌≤◌, [], length, drop, All, Some}
use Rattle.shop_history.specs.Logs.{entries_of}
use Rattle.shop_attempt.specs.Seats.{Seat}
use Rattle.shop_book.specs.Books.{BookValue}
use Rattle.shop_book.specs.declared.visitor.Visitor.{Visitor}

-- a book, and who has it
pub record SoloValue : Type 0 where
  pub book : BookValue
  pub visitor : Visitor

-- a book whose caller has made no calls yet
abbrev pub seated : BookValue → ℕ → SoloValue
seated book caller =
    record { book = book; visitor = record { caller = caller; calls = 0; settles = 0; greatest = 0 } }

-- no other caller comes meanwhile; the shop needs no name
abbrev pub seat_of : SoloValue → Seat
seat_of solo = record {
  shop = [];
  opening = solo.book.opening.tables;
  limit = solo.book.opening.limit;
  caller = solo.visitor.caller;
  seen = solo.book.log;
  own = entries_of solo.visitor.caller solo.book.log;
  calls = solo.visitor.calls;
  settles = solo.visitor.settles;
  greatest = solo.visitor.greatest;
  latest = Some solo.book.latest;
}

-- a mark whose moment is not above the latest stamp, so that later entries keep it
pub record IsKeptMark (book : BookValue) (front moment : ℕ) : Type 0 where
  pub within : front ≤ length book.log
  pub moment_is : moment ≤ book.latest
  pub behind : All (λ e. moment ≤ e.stamp) (drop front book.log)

-- the marks that a seat at a book keeps
abbrev pub marks_of : SoloValue → ℕ → ℕ → Type 0
marks_of solo front moment = IsKeptMark solo.book front moment
