-- How a worker answers by a list that it keeps, and keeps one that was read.
use Rattle.std.specs.Prelude.{◌≡◌, ℕ, ◌≤◌, List, length, take, All, Option, Some, None}
use Rattle.shop_model.specs.declared.page.Page.{Page}
use Rattle.shop_model.specs.declared.requests.Request.{Request}
use Rattle.shop_model.specs.pages.Show.{show}
use Rattle.shop_history.specs.Logs.{tables}
use Rattle.shop_cache.specs.declared.cache.Kept.{Kept}
use Rattle.shop_cache.specs.declared.lines.ListLine.{ListLine}
use Rattle.shop_cache.specs.declared.keys.ListKey.{ListKey}
use Rattle.shop_cache.specs.Caches.{Entries, found, with_kept}
use Rattle.shop_cache.specs.Keys.{key_asked}
use Rattle.shop_attempt.specs.Marks.{AreMarks}
use Rattle.shop_attempt.specs.Seats.{Seat}
use Rattle.shop_browse.specs.Lists.{AreLines, items_on, page_by}
use Rattle.shop_pages.specs.declared.reply.Form.{Form}
use Rattle.shop_pages.specs.Replies.{reply}
use Rattle.shop_engine.specs.Lists.{IsFresh, IsMarkedFresh, looked_for}
use Rattle.shop_engine.specs.Workers.{WorkerState}

-- the lines of a list that is kept are those of the tables at its front, which the store has marked, at a moment that
-- is not after the last
pub record IsKept (seat : Seat) (marked : ℕ → ℕ → Type 0) (last : ℕ) (key : ListKey) (kept : Kept) : Type 0 where
  pub within : kept.front ≤ length seat.seen
  pub lines : AreLines (tables seat.opening (take kept.front seat.seen)) (items_on (tables seat.opening (take kept.front seat.seen)) key) kept.lines
  pub past : kept.taken ≤ last
  pub mark : marked kept.front kept.taken
  pub marks : AreMarks marked seat.seen

abbrev pub AreKept : Seat → (ℕ → ℕ → Type 0) → ℕ → Entries → Type 0
AreKept seat marked last entries = All (λ e. IsKept seat marked last e.0 e.1) entries

-- the list of a key that is found at a moment, if a list is asked for
abbrev pub found_for : Option ListKey → ℕ → Entries → Option Kept
found_for None moment entries = None
found_for (Some key) moment entries = found key moment entries

-- after a look for one list at most
abbrev pub IsLookedOnce : Entries → Entries → Type 0
IsLookedOnce old new = (key : Option ListKey) × (new ≡ looked_for key old)

-- a list that is kept, which was read at this front, was found for the request, and the reply is around its page, which
-- is what the tables at that front show
pub record IsFoundList (seat : Seat) (marked : ℕ → ℕ → Type 0) (request : Request) (form : Form) (front moment : ℕ) (bytes : List ℕ) (entries : Entries) : Type 0 where
  pub key : ListKey
  pub asked : key_asked request ≡ Some key
  pub kept : Kept
  pub found_is : found key moment entries ≡ Some kept
  pub front_is : front ≡ kept.front
  pub page : Page
  pub page_is : page_by request kept.lines ≡ Some page
  pub bytes_are : bytes ≡ reply page form
  pub shows : (draw : ℕ) → show (tables seat.opening (take front seat.seen)) request draw ≡ Some page
  pub fresh_is : IsFresh seat.seen front moment
  pub marked_is : IsMarkedFresh marked seat.seen front moment

-- at the last moment, or none was found
abbrev pub IsAnsweredBy : {St : Type 0} → (St → Seat) → (St → ℕ → ℕ → Type 0) → Option ListKey → Request → Form → WorkerState St → WorkerState St → Option ℕ → Type 0
IsAnsweredBy seat_of marks_of key request form old new (Some front) =
    IsFoundList (seat_of old.store) (marks_of old.store) request form front old.progress.last new.reply old.kept
IsAnsweredBy seat_of marks_of key request form old new None = found_for key old.progress.last old.kept ≡ None

-- the lines, if there are some, are those of a list that may be kept
abbrev pub KeepsLines : Seat → (ℕ → ℕ → Type 0) → ℕ → Option ListKey → ℕ → Option (List ListLine) → Type 0
KeepsLines seat marked last (Some key) front (Some lines) = IsKept seat marked last key (record { front = front; taken = last; lines = lines })
KeepsLines seat marked last _ front _ = Unit {0}

-- with it, if it is one
abbrev pub kept_now : Option ListKey → ℕ → ℕ → Option (List ListLine) → Entries → Entries
kept_now (Some key) front last (Some lines) entries = with_kept key (record { front = front; taken = last; lines = lines }) entries
kept_now _ front last _ entries = entries
