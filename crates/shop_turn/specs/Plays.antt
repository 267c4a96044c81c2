-- What each kind of step tells the seat that makes it.
use Rattle.std.specs.Prelude.{◌≡◌, ◌≢◌, ◌⊎◌, ℕ, ◌+◌, ◌*◌, ◌≤◌, max, List, [], ◌∷◌, ◌++◌, length, drop, Option, Some, true, All, Contains}
use Rattle.atomic_table.specs.Table.{Me, Step, rest}
use Rattle.shop_model.specs.rows.Limits.{stamp_limit}
use Rattle.shop_book.specs.Books.{BookValue}
use Rattle.shop_history.specs.declared.acts.Entry.{Entry}
use Rattle.shop_turn.specs.declared.rule.Part.{Part}
use Rattle.shop_turn.specs.declared.rule.View.{View}
use Rattle.shop_turn.specs.Marks.{MarkFits}
use Rattle.shop_turn.specs.Views.{named_as, sharing, turning, gathering, held_book, looking, knowing, raising, appending, filling, giving, taking}

-- what a seat knows, and the slots that it has taken, with what is in them, the last one first
abbrev pub AtTable : Type 0
AtTable = Me (Option BookValue) View

abbrev pub BookStep : Type 0
BookStep = Step (Option BookValue)

-- the log begins with what was seen under a number, and behind that stands no entry of its caller
pub record PartTold (log : List Entry) (part : Part) : Type 0 where
  pub after : List Entry
  pub is : log ≡ part.seen ++ after
  pub alone : 1 ≤ part.number → All (λ e. e.caller ≢ part.number) after

-- a stamp is the one that the shop began with, or the moment of a mark of this seat
abbrev pub StampTold : View → ℕ → Type 0
StampTold view stamp = (stamp ≡ view.origin.latest) ⊎ ((front : ℕ) × Contains view.marks (front, stamp))

-- the seat has a part for each caller of the shop
abbrev pub IsWhole : View → Type 0
IsWhole view =
    (c : ℕ) → 1 ≤ c → c ≤ view.origin.callers → (part : Part) × Contains (view.own ∷ view.others) part × (part.number ≡ c)

-- what a look tells of the log that the seat has
pub record Told (view : View) : Type 0 where
  pub parts : All (PartTold view.log) (view.own ∷ view.others)
  pub marks : All (MarkFits view.log view.latest) view.marks
  pub long : view.origin.size ≤ length view.log
  pub entries : All (λ e. (1 ≤ e.caller) × (e.caller ≤ view.origin.callers)) (drop view.origin.size view.log)
  pub stamps : IsWhole view → All (λ e. StampTold view e.stamp) (drop view.origin.size view.log)

-- this is the latest stamp, that of the shared book or a later one
pub record IsLatest (view : View) (latest : ℕ) : Type 0 where
  pub after : view.latest ≤ latest
  pub bound : latest ≤ stamp_limit
  pub known : view.knows ≡ true → latest ≡ view.latest

-- the book that a seat has shares of, when this is the latest stamp
abbrev pub book_at : ℕ → View → BookValue
book_at latest view = record { opening = view.origin.opening; log = view.log; latest = latest }

-- the log of the book in the slot that a seat took last
abbrev pub slot_log : List (ℕ × Option BookValue) → List Entry
slot_log ((slot, Some book) ∷ slots) = book.log
slot_log _ = []

-- the number found was the one before, or nothing is done
abbrev pub Names : BookStep → AtTable → ℕ → AtTable → Type 0
Names step old found new =
    (found ≡ step.first → new ≡ (named_as step.second old.0, old.1)) × (found ≢ step.first → new ≡ old)

-- nobody was found to have the share, or nothing is done
abbrev pub Enters : BookStep → AtTable → ℕ → AtTable → Type 0
Enters step old found new =
    (found ≡ 0 → (book : BookValue) × (book.opening ≡ old.0.origin.opening)
    × (new ≡ (sharing book old.0, (8 * old.0.own.number, Some book) ∷ old.1)))
    × (found ≢ 0 → new ≡ old)

abbrev pub Looks : ℕ → BookStep → AtTable → ℕ → AtTable → Type 0
Looks settles step old found new =
    (found ≡ length old.0.log) × ((latest : ℕ) × IsLatest old.0 latest × Told (taking (book_at latest old.0) old.0))
    × (new ≡ (looking settles old.0, old.1))

abbrev pub Leaves : BookStep → AtTable → ℕ → AtTable → Type 0
Leaves step old found new = new ≡ (giving old.0, rest old.1)

-- nobody was found to have the turn, or nothing is done
abbrev pub Takes : BookStep → AtTable → ℕ → AtTable → Type 0
Takes step old found new =
    (found ≡ 0 → (book : BookValue) × (book.opening ≡ old.0.origin.opening)
    × (new ≡ (turning book old.0, (0, Some book) ∷ old.1)))
    × (found ≢ 0 → new ≡ old)

-- the next caller was found outside, or nothing is done; all shares are of one book
abbrev pub Gathers : BookStep → AtTable → ℕ → AtTable → Type 0
Gathers step old found new =
    (found ≡ 0 → new ≡ (gathering old.0, (8 * (old.0.gathered + 1), Some (held_book old.0)) ∷ old.1))
    × (found ≢ 0 → new ≡ old)

abbrev pub Measures : BookStep → AtTable → ℕ → AtTable → Type 0
Measures step old found new = (old.0.latest ≤ found) × (found ≤ stamp_limit) × (new ≡ (knowing found old.0, old.1)) × All (MarkFits old.0.log found) old.0.marks

-- a settle that changes nothing was accepted
abbrev pub Raises : BookStep → AtTable → ℕ → AtTable → Type 0
Raises step old found new =
    All (MarkFits old.0.log found) old.0.marks × (old.0.latest ≤ found) × (found ≤ stamp_limit)
    × (new ≡ (raising step.first old.0, old.1))

-- a change was accepted
abbrev pub Lifts : BookStep → AtTable → ℕ → AtTable → Type 0
Lifts step old found new = new ≡ (knowing (max old.0.latest step.first) (raising step.first old.0), old.1)

abbrev pub Appends : BookStep → AtTable → ℕ → AtTable → Type 0
Appends step old found new = new ≡ (appending (slot_log old.1) old.0, old.1)

abbrev pub Fills : BookStep → AtTable → ℕ → AtTable → Type 0
Fills step old found new = new ≡ (filling old.0, rest old.1)

abbrev pub Gives : BookStep → AtTable → ℕ → AtTable → Type 0
Gives step old found new = new ≡ (giving old.0, rest old.1)
