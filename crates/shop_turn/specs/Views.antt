-- What a seat knows, at first and after each kind of step.
use Rattle.std.specs.Prelude.{ℕ, ◌+◌, ◌-◌, List, [], ◌∷◌, ◌++◌, length, true, false}
use Rattle.shop_book.specs.Books.{BookValue}
use Rattle.shop_history.specs.declared.acts.Entry.{Entry}
use Rattle.shop_turn.specs.declared.rule.View.{View}

-- the first seat's: it has seen the opening log, and has no number
abbrev pub opening_view : BookValue → ℕ → View
opening_view book callers = record {
  live = true;
  origin = record { size = length book.log; latest = book.latest; callers = callers; opening = book.opening };
  own = record { number = 0; seen = book.log };
  others = [];
  marks = [];
  looks = 0;
  settles = 0;
  stage = 0;
  gathered = 0;
  log = [];
  latest = 0;
  knows = false;
}

-- what was seen under no number is seen under this one
abbrev pub named_as : ℕ → View → View
named_as number view = record view { own = record { number = number; seen = view.own.seen } }

-- inside, with a share of this book
abbrev pub sharing : BookValue → View → View
sharing book view = record view { stage = 1; log = book.log; latest = book.latest }

-- the turn, with its share, of this book
abbrev pub turning : BookValue → View → View
turning book view = record view { stage = 2; gathered = 0; log = book.log; latest = book.latest; knows = false }

-- one caller's share more
abbrev pub gathering : View → View
gathering view = record view { gathered = view.gathered + 1; knows = false }

-- the book that the shares of this seat are of
abbrev pub held_book : View → BookValue
held_book view = record { opening = view.origin.opening; log = view.log; latest = view.latest }

-- one look more, and so many settles more; all of the log is seen
abbrev pub looking : ℕ → View → View
looking settles view = record view {
  own = record { number = view.own.number; seen = view.log };
  others = [];
  looks = view.looks + 1;
  settles = view.settles + settles;
}

-- this is the latest stamp
abbrev pub knowing : ℕ → View → View
knowing latest view = record view { latest = latest; knows = true }

-- a mark at the log as it is, for a settle that was accepted at this moment
abbrev pub raising : ℕ → View → View
raising moment view = record view { marks = view.marks ++ (length view.log, moment) ∷ [] }

-- this is the log now
abbrev pub appending : List Entry → View → View
appending log view = record view { own = record { number = view.own.number; seen = log }; log = log }

-- one caller's share less
abbrev pub filling : View → View
filling view = record view { gathered = view.gathered - 1; knows = false }

-- outside, with no share
abbrev pub giving : View → View
giving view = record view { stage = 0; gathered = 0; log = []; latest = 0; knows = false }

-- outside, with a book that was found
abbrev pub taking : BookValue → View → View
taking book view = record view { stage = 0; gathered = 0; log = book.log; latest = book.latest; knows = false }

-- a call that looked, and left the book as it was
abbrev pub read_view : BookValue → View → View
read_view book view = giving (looking 0 (taking book view))

-- a new seat knows what this one has seen
abbrev pub copy : View → View
copy view = record {
  live = view.live;
  origin = view.origin;
  own = record { number = 0; seen = view.own.seen };
  others = [];
  marks = [];
  looks = 0;
  settles = 0;
  stage = 0;
  gathered = 0;
  log = [];
  latest = 0;
  knows = false;
}

-- the parts and the marks of both
abbrev pub together : View → View → View
together view other = record view {
  others = view.others ++ other.own ∷ other.others;
  marks = view.marks ++ other.marks;
}
