-- A shop from its opening to its close.
use Rattle.std.specs.Prelude.{◌≡◌, ◌⊎◌, ℕ, zero, suc, ◌≤◌, List, [], ◌∷◌, ◌++◌, length, drop, All, Contains}
use Rattle.atomic_table.specs.Seated.{TableId}
use Rattle.shop_log.specs.Histories.{Extends}
use Rattle.shop_history.specs.declared.acts.Entry.{Entry}
use Rattle.shop_history.specs.Logs.{entries_of}
use Rattle.shop_attempt.specs.Marks.{AreMarks}
use Rattle.shop_attempt.specs.Seats.{IsSeat}
use Rattle.shop_book.specs.Books.{BookValue, IsBook}
use Rattle.shop_turn.specs.declared.rule.Origin.{Origin}
use Rattle.shop_turn.specs.declared.rule.Start.{Start}
use Rattle.shop_turn.specs.Views.{opening_view}
use Rattle.shop_turn.specs.Seats.{Place, IsAt}
use Rattle.shop_turn.specs.Desks.{DeskValue, own_of, seat_of, marks_of, moments_of}

-- the most desks that a shop may have
abbrev pub most_callers : ℕ
most_callers = 64

-- the table of a shop, and a seat that has seen the opening log
pub record IsLaid (book : BookValue) (callers : ℕ) (id : TableId) (key : Start) (seat : Place) : Type 0 where
  pub at : IsAt id callers seat
  pub me : seat.me ≡ (opening_view book callers, [])
  pub key_book : key.book.value ≡ book
  pub key_callers : key.callers ≡ callers
  pub book_is : IsBook book

-- a desk that has made no call
abbrev pub new_desk : TableId → BookValue → ℕ → ℕ → DeskValue
new_desk table book callers number = record {
  table = table;
  origin = (opening_view book callers).origin;
  number = number;
  seen = book.log;
  marks = [];
  looks = 0;
  settles = 0;
}

-- so many desks, numbered from 1
abbrev pub new_desks : TableId → BookValue → ℕ → ℕ → List DeskValue
new_desks table book callers zero = []
new_desks table book callers (suc n) =
    new_desks table book callers n ++ new_desk table book callers (suc n) ∷ []

-- the desks of a new shop
pub record Opens (book : BookValue) (callers : ℕ) (desks : List DeskValue) : Type 0 where
  pub book_is : IsBook book
  pub table : TableId
  pub are : desks ≡ new_desks table book callers callers
  pub valid : All (λ desk. IsSeat (seat_of desk)) desks
  pub marked : All (λ desk. AreMarks (marks_of desk) desk.seen) desks

-- the last log begins with what a desk had seen, has no other entry of its caller, and keeps its marks
pub record Outlasts (log : List Entry) (desk : DeskValue) : Type 0 where
  pub grows : Extends desk.seen log
  pub mine : entries_of desk.number log ≡ entries_of desk.number desk.seen
  pub own : entries_of desk.number (drop desk.origin.size log) ≡ own_of desk
  pub marks : AreMarks (marks_of desk) log

-- there is a desk for each caller
abbrev pub IsAll : Origin → List DeskValue → Type 0
IsAll origin desks =
    (c : ℕ) → 1 ≤ c → c ≤ origin.callers → (desk : DeskValue) × Contains desks desk × (desk.number ≡ c)

-- the moment of a settle that was done at one of these desks
abbrev pub IsMomentOf : List DeskValue → ℕ → Type 0
IsMomentOf desks moment =
    (desk : DeskValue) × Contains desks desk × Contains (moments_of desk.marks) moment

-- the last book of a shop: behind the opening log stand entries of its callers alone, and where all desks
-- are here, the stamp of each is the one that the shop began with, or the moment of a settle at a desk
pub record Closes (origin : Origin) (desks : List DeskValue) (book : BookValue) : Type 0 where
  pub book_is : IsBook book
  pub opening : book.opening ≡ origin.opening
  pub each : All (Outlasts book.log) desks
  pub long : origin.size ≤ length book.log
  pub callers : All (λ e. (1 ≤ e.caller) × (e.caller ≤ origin.callers)) (drop origin.size book.log)
  pub stamps : IsAll origin desks → All (λ e. (e.stamp ≡ origin.latest) ⊎ IsMomentOf desks e.stamp) (drop origin.size book.log)
