-- The rule that a table of a shop keeps between any two steps.
use Rattle.std.specs.Prelude.{◌≡◌, ◌≢◌, ◌⊎◌, ℕ, ◌+◌, ◌*◌, ◌<◌, ◌≤◌, List, ◌∷◌, ◌++◌, length, drop, slice_index, Option, Some, true, All, Contains}
use mathlib.Core.Option.{some}
use mathlib.Core.Option as maybe
use lib.ListN.{get_elem?}
use Rattle.atomic_table.specs.Table.{State}
use Rattle.shop_model.specs.rows.Limits.{stamp_limit}
use Rattle.shop_book.specs.Books.{BookValue}
use Rattle.shop_history.specs.declared.acts.Entry.{Entry}
use Rattle.shop_turn.specs.declared.rule.Origin.{Origin}
use Rattle.shop_turn.specs.declared.rule.Part.{Part}
use Rattle.shop_turn.specs.declared.rule.View.{View}
use Rattle.shop_turn.specs.Marks.{MarkFits}

-- A number up to `named` has one owner, the seat by this index whose part has it. The log begins with
-- what was seen under it, and behind that stands no entry of its caller.
pub record PartFits (log : List Entry) (owner : ℕ → ℕ) (named index : ℕ) (part : Part) : Type 0 where
  pub after : List Entry
  pub is : log ≡ part.seen ++ after
  pub alone : 1 ≤ part.number → All (λ e. e.caller ≢ part.number) after
  pub owned : 1 ≤ part.number → (part.number ≤ named) × (owner part.number ≡ index)

-- how a shop stands: its log, which seat owns each number, who has the turn, the latest stamp, and the
-- largest number; how many callers' shares the one with the turn has, which callers are inside (1), and
-- the latest stamp of the book that is shared
pub record Now : Type 0 where
  pub log : List Entry
  pub owner : ℕ → ℕ
  pub turn : ℕ
  pub latest : ℕ
  pub named : ℕ
  pub gathered : ℕ
  pub stage : ℕ → ℕ
  pub shelf : ℕ

-- the book of a shop that began so
abbrev pub shelved : Origin → List Entry → ℕ → BookValue
shelved origin log latest = record { opening = origin.opening; log = log; latest = latest }

abbrev pub Homes : Type 0
Homes = List (maybe.Option (Option BookValue))

-- a share of the book as it is
abbrev pub a_share : Origin → Now → maybe.Option (Option BookValue)
a_share origin now = some (Some (shelved origin now.log now.shelf))

-- The share of a caller who is outside lies in its slot, till the one with the turn takes it. The caller's
-- word tells which of the three has it.
pub record CallerFits (origin : Origin) (now : Now) (words : List ℕ) (homes : Homes) (c : ℕ) : Type 0 where
  pub home : now.stage c ≡ 0 → now.gathered < c → (slice_index words (16 * c) ≡ 0) × (get_elem? homes (8 * c) ≡ some (a_share origin now))
  pub inside : 0 < now.stage c → (slice_index words (16 * c) ≡ 1) × (now.gathered < c)
  pub taken : c ≤ now.gathered → slice_index words (16 * c) ≡ 2

-- a share is of the log as it is
abbrev pub HasShare : Now → View → Type 0
HasShare now view = (view.log ≡ now.log) × (view.latest ≡ now.shelf)

-- how a seat stands, whose number is named: outside, inside with its share, or with the turn and its share
pub record Stands (origin : Origin) (now : Now) (view : View) : Type 0 where
  pub idle : view.own.number ≡ 0 → view.stage ≡ 0
  pub stands : 1 ≤ view.own.number → view.stage < 2 → now.stage view.own.number ≡ view.stage
  pub stays_out : 1 ≤ view.own.number → view.stage ≡ 2 → now.stage view.own.number ≡ 0
  pub shares : view.stage ≡ 1 → HasShare now view
  pub turns : view.stage ≡ 2 → (now.turn ≡ view.own.number) × (now.gathered ≡ view.gathered) × HasShare now view
  pub knows : view.knows ≡ true → (view.stage ≡ 2) × (origin.callers ≤ now.gathered) × (view.latest ≡ now.latest)

-- the seat by an index knows the shop so far
pub record Fits (origin : Origin) (now : Now) (index : ℕ) (view : View) : Type 0 where
  pub same_origin : view.live ≡ true → view.origin ≡ origin
  pub parts : All (PartFits now.log now.owner now.named index) (view.own ∷ view.others)
  pub marks : All (MarkFits now.log now.latest) view.marks
  pub place : Stands origin now view

-- this is the moment of a mark of the seat that owns a caller's number
pub record IsMarked (owner : ℕ → ℕ) (named : ℕ) (views : List View) (moment : ℕ) : Type 0 where
  pub caller : ℕ
  pub one : 1 ≤ caller
  pub most : caller ≤ named
  pub view : View
  pub there : get_elem? views (owner caller) ≡ some view
  pub front : ℕ
  pub mark : Contains view.marks (front, moment)

-- a stamp is the one that the shop began with, or the moment of a mark
abbrev pub IsSourced : Origin → (ℕ → ℕ) → ℕ → List View → ℕ → Type 0
IsSourced origin owner named views stamp = (stamp ≡ origin.latest) ⊎ IsMarked owner named views stamp

abbrev pub EntryFits : Origin → (ℕ → ℕ) → ℕ → List View → Entry → Type 0
EntryFits origin owner named views e =
    (1 ≤ e.caller) × (e.caller ≤ named) × IsSourced origin owner named views e.stamp

-- There is one log, which the words count; shares of its book are with the callers inside, with the one
-- who has the turn, and in the slots, the first of which has that of the turn; all seats know it so far; and its entries beyond the opening ones
-- are those of callers with numbers.
pub record Holds (origin : Origin) (s : State (Option BookValue) View) : Type 0 where
  pub now : Now
  pub wide : length s.words ≡ 16 * origin.callers + 16
  pub turn : slice_index s.words 0 ≡ now.turn
  pub count : slice_index s.words 1 ≡ length now.log
  pub latest : slice_index s.words 2 ≡ now.latest
  pub named : slice_index s.words 3 ≡ now.named
  pub free : now.turn ≡ 0 → now.gathered ≡ 0
  pub spare : now.turn ≡ 0 → get_elem? s.homes 0 ≡ some (a_share origin now)
  pub most : now.gathered ≤ origin.callers
  pub unnamed : (c : ℕ) → now.named < c → now.stage c ≡ 0
  pub callers : (c : ℕ) → 1 ≤ c → c ≤ origin.callers → CallerFits origin now s.words s.homes c
  pub shelf : now.shelf ≤ now.latest
  pub bound : now.latest ≤ stamp_limit
  pub fits : (index : ℕ) (view : View) → get_elem? s.views index ≡ some view → Fits origin now index view
  pub few : now.named ≤ origin.callers
  pub long : origin.size ≤ length now.log
  pub entries : All (EntryFits origin now.owner now.named s.views) (drop origin.size now.log)
  pub source : IsSourced origin now.owner now.named s.views now.latest
