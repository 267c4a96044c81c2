-- What the calls of one seat rest on, and what they leave.
use Rattle.std.specs.Prelude.{◌≡◌, ℕ, zero, suc, ◌+◌, ◌*◌, ◌^◌, ◌<◌, ◌≤◌, List, [], ◌∷◌, ◌++◌, length, max, Option, None, IfOk, Result, true}
use Rattle.atomic_table.specs.Seated.{TableId}
use Rattle.atomic_table.specs.declared.shared.Seat.{Seat}
use Rattle.shop_model.specs.rows.Limits.{stamp_limit}
use Rattle.shop_history.specs.declared.acts.Entry.{Entry}
use Rattle.shop_history.specs.declared.keys.Key.{Key}
use Rattle.shop_history.specs.declared.keys.Row.{Row}
use Rattle.shop_history.specs.Logs.{entries_of}
use Rattle.shop_attempt.specs.declared.attempts.Attempt.{Attempt}
use Rattle.shop_attempt.specs.declared.attempts.Settle.{Settle}
use Rattle.shop_attempt.specs.declared.attempts.Settle.TheVariants.{Done}
use Rattle.shop_book.specs.Books.{BookValue, IsBook}
use Rattle.shop_book.specs.Settles.{SettledAs}
use Rattle.shop_turn.specs.declared.rule.Start.{Start}
use Rattle.shop_turn.specs.declared.rule.View.{View}
use Rattle.shop_turn.specs.Views.{opening_view, sharing, turning, gathering, held_book, taking, looking, raising, appending, giving, read_view}
use Rattle.shop_turn.specs.Plays.{AtTable, Told}
use Rattle.shop_turn.specs.Shared.{IsReadIn}

abbrev pub Place : Type 0
Place = Seat (Option BookValue) View

-- the seat is one of this table, which is that of a shop of so many callers
pub record IsAt (id : TableId) (callers : ℕ) (s : Place) : Type 0 where
  pub table : s.table_id ≡ id
  pub words : id.words ≡ 16 * callers + 16
  pub slots : id.slots ≡ 8 * callers + 8
  pub few : callers < 2 ^ 32

-- the seat has this number, and is outside
pub record IsReady (number callers : ℕ) (m : AtTable) : Type 0 where
  pub live : m.0.live ≡ true
  pub idle : m.0.stage ≡ 0
  pub number_is : m.0.own.number ≡ number
  pub one : 1 ≤ number
  pub most : number ≤ callers
  pub empty : m.1 ≡ []

-- the seat has this number, and is inside with its share
pub record IsInside (number callers : ℕ) (share : BookValue) (m : AtTable) : Type 0 where
  pub live : m.0.live ≡ true
  pub stands : m.0.stage ≡ 1
  pub number_is : m.0.own.number ≡ number
  pub one : 1 ≤ number
  pub most : number ≤ callers
  pub book : share ≡ held_book m.0
  pub slot : m.1 ≡ (8 * number, None) ∷ []

-- the seat has the turn, and the shares of the callers before this one
pub record HasTurn (next callers : ℕ) (m : AtTable) : Type 0 where
  pub live : m.0.live ≡ true
  pub one : 1 ≤ m.0.own.number
  pub has : m.0.stage ≡ 2
  pub gathered : m.0.gathered + 1 ≡ next
  pub most : next ≤ callers

-- the slots of the callers up to k, empty, the last one first, and then that of the turn
abbrev pub empties : ℕ → List (ℕ × Option BookValue)
empties zero = (0, None) ∷ []
empties (suc k) = (8 * suc k, None) ∷ empties k

-- the seat has the turn, its share and those of the callers up to k, which are of this book
pub record HasShares (k : ℕ) (share : BookValue) (m : AtTable) : Type 0 where
  pub live : m.0.live ≡ true
  pub one : 1 ≤ m.0.own.number
  pub has : m.0.stage ≡ 2
  pub gathered : m.0.gathered ≡ k
  pub book : share ≡ held_book m.0
  pub slots : m.1 ≡ empties k

-- a number of this shop, and a seat that has seen the opening log
pub record MayBeNamed (start : Start) (number : ℕ) (view : View) : Type 0 where
  pub idle : view.stage ≡ 0
  pub seen : (opening_view start.book.value start.callers).origin.size ≤ length view.own.seen
  pub one : 1 ≤ number
  pub most : number ≤ start.callers

-- the same seat, which knows and has this now
abbrev pub SeatIs : Place → AtTable → Place → Type 0
SeatIs s m t = (t.table_id ≡ s.table_id) × (t.id ≡ s.id) × (t.me ≡ m)

-- the same seat, which knows of the log what this view does, wherever it stands
abbrev pub Keeps : Place → View → Place → Type 0
Keeps s view t = (t.table_id ≡ s.table_id) × (t.id ≡ s.id) × (giving t.me.0 ≡ giving view)

-- the seat is inside, with a share of this book, and its slot has none
abbrev pub TakesShare : Place → ℕ → BookValue → Place → Type 0
TakesShare s number share t =
    SeatIs s (sharing share s.me.0, (8 * number, None) ∷ []) t × (share.opening ≡ s.me.0.origin.opening)

-- the seat has the turn, with a share of this book, and the slot of the turn has none
abbrev pub TakesTurn : Place → BookValue → Place → Type 0
TakesTurn s share t = SeatIs s (turning share s.me.0, (0, None) ∷ []) t × (share.opening ≡ s.me.0.origin.opening)

-- the share of one caller more was taken, of the same book as those before
abbrev pub Gathered : ℕ → BookValue → Place → Place → Type 0
Gathered next share s t =
    (share ≡ held_book s.me.0) × SeatIs s (gathering s.me.0, (8 * next, None) ∷ s.me.1) t

-- the seat has the turn and the shares of so many callers, wherever it stood
abbrev pub TakesAll : Place → ℕ → BookValue → Place → Type 0
TakesAll s callers share t = HasShares callers share t.me × Keeps s s.me.0 t

-- the shop's book, and what a look at it tells a seat that knew so much
pub record Found (book : BookValue) (view : View) : Type 0 where
  pub book_is : IsBook book
  pub told : Told (taking book view)
  pub opening : book.opening ≡ view.origin.opening

-- a call of a seat that knew so much found a book, and left it as it was
abbrev pub Finds : View → Place → Place → Type 0
Finds view s t = (book : BookValue) × Found book view × SeatIs s (read_view book view, []) t

-- the same, and the answer is what the key shows in that book, with its version
abbrev pub Reads : {E : Type 0} → Place → Place → Key → Result (Row × ℕ) E → Type 0
Reads s t key result =
    (book : BookValue) × Found book s.me.0 × SeatIs s (read_view book s.me.0, []) t × IfOk result (IsReadIn book key)

-- after a settle that found one book and left another
abbrev pub settled_view : BookValue → BookValue → ℕ → Settle → View → View
settled_view before after moment (Done drawn) view =
    giving (appending after.log (raising moment (looking 1 (taking before view))))
settled_view before after moment _ view = giving (looking 1 (taking before view))

-- the book of a seat that knows the latest stamp, with one entry more, of its own, at the greatest of that and a moment
pub record IsLonger (moment : ℕ) (view : View) (book : BookValue) : Type 0 where
  pub entry : Entry
  pub is : book ≡ record { opening = view.origin.opening; log = view.log ++ entry ∷ []; latest = max view.latest moment }
  pub caller : entry.caller ≡ view.own.number
  pub stamp : entry.stamp ≡ max view.latest moment

-- the seat has every share and knows the latest stamp, and the book has one entry more than its shares have
pub record IsCounted (callers moment : ℕ) (book : BookValue) (m : AtTable) : Type 0 where
  pub all : HasShares callers (held_book m.0) m
  pub knows : m.0.knows ≡ true
  pub single : m.0.others ≡ []
  pub longer : IsLonger moment m.0 book
  pub room : length m.0.log + 1 < 2 ^ 64
  pub bound : moment ≤ stamp_limit

-- a call settled an attempt of a caller over one book, which became another
pub record Settled (number : ℕ) (attempt : Attempt) (s t : Place) (answer : Settle) : Type 0 where
  pub before : BookValue
  pub after : BookValue
  pub found : Found before s.me.0
  pub kept : IsBook after
  pub settles : SettledAs before after number (length (entries_of number before.log) + 1) attempt answer
  pub seat : SeatIs s (settled_view before after attempt.moment answer s.me.0, []) t
