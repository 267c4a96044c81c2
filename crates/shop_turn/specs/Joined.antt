-- The desks that a seat has joined.
use Rattle.std.specs.Prelude.{ℕ, ◌≤◌, List, [], ◌∷◌, ◌++◌, map, length}
use Rattle.shop_turn.specs.declared.rule.Part.{Part}
use Rattle.shop_turn.specs.declared.rule.View.{View}
use Rattle.shop_turn.specs.Desks.{DeskValue}

abbrev pub part_of : DeskValue → Part
part_of desk = record { number = desk.number; seen = desk.seen }

abbrev pub all_marks : List DeskValue → List (ℕ × ℕ)
all_marks [] = []
all_marks (desk ∷ desks) = desk.marks ++ all_marks desks

-- a view with their parts and their marks
abbrev pub joined : View → List DeskValue → View
joined view desks = record view { others = map part_of desks; marks = view.marks ++ all_marks desks }

-- what is true of every desk
pub record IsSeated (desk : DeskValue) : Type 0 where
  pub one : 1 ≤ desk.number
  pub long : desk.origin.size ≤ length desk.seen
