-- What contracts see of a desk, and what it means to its caller.
use Rattle.std.specs.Prelude.{◌≡◌, ℕ, ◌+◌, ◌*◌, ◌^◌, ◌<◌, ◌≤◌, max, List, [], ◌∷◌, map, length, drop, None, Contains}
use Rattle.atomic_table.specs.Seated.{TableId}
use Rattle.shop_log.specs.Histories.{Extends}
use Rattle.shop_history.specs.declared.acts.Entry.{Entry}
use Rattle.shop_history.specs.Logs.{entries_of}
use Rattle.shop_attempt.specs.declared.attempts.Attempt.{Attempt}
use Rattle.shop_attempt.specs.declared.attempts.Settle.{Settle}
use Rattle.shop_attempt.specs.Marks.{AreMarks, StillMarked, LeavesMark}
use Rattle.shop_attempt.specs.Seats.{Seat, IsSeat, Follows, Looked, Rose, RoseOnce}
use Rattle.shop_attempt.specs.Settles.{SettledAs}
use Rattle.shop_turn.specs.declared.rule.Origin.{Origin}
use Rattle.shop_turn.specs.declared.rule.Start.{Start}
use Rattle.shop_turn.specs.declared.rule.View.{View}
use Rattle.shop_turn.specs.Plays.{AtTable}
use Rattle.shop_turn.specs.Seats.{IsReady}

-- at which table, how the shop began, the caller's number, the log seen, the front and the moment of each
-- settle that was done, and how often it looked and settled
pub record DeskValue : Type 0 where
  pub table : TableId
  pub origin : Origin
  pub number : ℕ
  pub seen : List Entry
  pub marks : List (ℕ × ℕ)
  pub looks : ℕ
  pub settles : ℕ

abbrev pub desk_value : TableId → ℕ → View → DeskValue
desk_value table number view = record {
  table = table;
  origin = view.origin;
  number = number;
  seen = view.own.seen;
  marks = view.marks;
  looks = view.looks;
  settles = view.settles;
}

-- what holds of every desk between two calls
pub record IsDesk (id : TableId) (key : Start) (table : TableId) (number callers : ℕ) (m : AtTable) : Type 0 where
  pub same : table ≡ id
  pub words : id.words ≡ 16 * callers + 16
  pub slots : id.slots ≡ 8 * callers + 8
  pub few : callers < 2 ^ 32
  pub callers_are : callers ≡ key.callers
  pub ready : IsReady number callers m
  pub single : m.0.others ≡ []
  pub long : m.0.origin.size ≤ length m.0.own.seen

-- the moments of the settles that were done
abbrev pub moments_of : List (ℕ × ℕ) → List ℕ
moments_of marks = map (λ (mark : ℕ × ℕ). mark.1) marks

-- the greatest of them, 0 where there is none
abbrev pub greatest_of : List (ℕ × ℕ) → ℕ
greatest_of [] = 0
greatest_of (mark ∷ marks) = max mark.1 (greatest_of marks)

-- the changes that were made at this desk
abbrev pub own_of : DeskValue → List Entry
own_of desk = entries_of desk.number (drop desk.origin.size desk.seen)

-- a shop is named by how it began, and by its table
abbrev pub shop_name : TableId → Origin → List ℕ
shop_name t origin =
    origin.size ∷ origin.latest ∷ origin.callers ∷ t.words ∷ t.slots ∷ t.views_name ∷ t.atom ∷ t.block ∷ t.offset ∷ t.slot_names

-- other callers come meanwhile, so the latest stamp is not told
abbrev pub seat_of : DeskValue → Seat
seat_of desk = record {
  shop = shop_name desk.table desk.origin;
  opening = desk.origin.opening.tables;
  limit = desk.origin.opening.limit;
  caller = desk.number;
  seen = desk.seen;
  own = own_of desk;
  calls = desk.looks;
  settles = desk.settles;
  greatest = greatest_of desk.marks;
  latest = None;
}

-- the marks that a desk keeps
abbrev pub marks_of : DeskValue → ℕ → ℕ → Type 0
marks_of desk front moment = Contains desk.marks (front, moment)

-- both are desks of one shop
abbrev pub IsOneShop : DeskValue → DeskValue → Type 0
IsOneShop desk other = (seat_of other).shop ≡ (seat_of desk).shop

-- a call looked
pub record HasLooked (old new : DeskValue) : Type 0 where
  pub looked : Looked (seat_of old) (seat_of new)
  pub valid : IsSeat (seat_of new)
  pub calls : Rose (seat_of old).calls (seat_of new).calls
  pub still : StillMarked (marks_of old) (marks_of new)
  pub marks : AreMarks (marks_of new) new.seen

-- a call settled an attempt
pub record HasSettled (old new : DeskValue) (attempt : Attempt) (answer : Settle) : Type 0 where
  pub follows : Follows (seat_of old) (seat_of new)
  pub valid : IsSeat (seat_of new)
  pub calls : Rose (seat_of old).calls (seat_of new).calls
  pub settles : RoseOnce (seat_of old).settles (seat_of new).settles
  pub settled : SettledAs (seat_of old) (seat_of new) attempt answer
  pub still : StillMarked (marks_of old) (marks_of new)
  pub marks : AreMarks (marks_of new) new.seen
  pub mark : LeavesMark (marks_of new) attempt answer

-- a call looked, and the log that it found begins with what another desk had seen
pub record Meets (old other new : DeskValue) : Type 0 where
  pub looks : HasLooked old new
  pub other_seen : Extends other.seen new.seen
