-- What driving browsers over a worker comes to.
use Rattle.std.specs.Prelude.{◌≡◌, ◌⊎◌, ℕ, max, List, [], ◌∷◌, ◌++◌, length, map, flat_map, sum_by, replicate, All, Some, Result, Ok, Err, slice_get}
use Rattle.std.specs.List.{concat, range_with_len}
use Rattle.shop_text.specs.declared.memory.Memory.{Memory}
use Rattle.shop_edges.specs.Gateways.{Answered}
use Rattle.shop_browsers.specs.Browsers.{BrowserState}
use Rattle.shop_engine.specs.Lists.{IsFreshPoint}
use Rattle.shop_engine.specs.Seats.{Stays}
use Rattle.shop_engine.specs.declared.report.Point.{Point}
use Rattle.shop_engine.specs.Workers.{Standing}
use Rattle.shop_drive.specs.declared.tally.Tally.{Tally}
use Rattle.shop_drive.specs.Tallies.{tally_of}
use Rattle.shop_drive.specs.Turns.{Stage, Turn, AreTurns, GivesUpFor, pair_at}

-- the places of so many browsers that take turns, so many steps each
abbrev pub in_turn : ℕ → ℕ → List ℕ
in_turn count steps = concat (replicate steps (range_with_len 0 count))

abbrev pub places_of : List Turn → List ℕ
places_of turns = map (λ t. t.place) turns

abbrev pub points_of : List Turn → List Point
points_of turns = map (λ t. t.step.point) turns

-- the greatest moment of points, 0 where there is none
abbrev pub greatest_moment : List Point → ℕ
greatest_moment [] = 0
greatest_moment (point ∷ points) = max point.moment (greatest_moment points)

-- each list that was kept is fresh, by what the store marks behind the last turn
abbrev pub AreFresh : (ℕ → ℕ → Type 0) → Stage → List Turn → Type 0
AreFresh marked to turns = All (IsFreshPoint marked to.worker.seat.seen) (points_of turns)

-- all turns were taken, in order. They made these entries of the caller by so many settles, the gateway tells what it
-- was asked in them, and said, and this is how they went
pub record Drove (from to : Stage) (steps : ℕ) (tally : Tally) : Type 0 where
  pub turns : List Turn
  pub run : AreTurns from turns to
  pub order : places_of turns ≡ in_turn (length from.browsers) steps
  pub stays : Stays from.worker.seat to.worker.seat (flat_map (λ t. t.step.made) turns) (sum_by (λ t. t.step.point.tries) turns) to.worker.progress.last
  pub asked : Answered from.worker.told to.worker.told (flat_map (λ t. t.step.answers) turns)
  pub counts : tally ≡ tally_of turns

-- of these places the first is of a browser that was not answered, as memory ran out
pub record StopsAt (mid : Stage) (places : List ℕ) (to : Standing) : Type 0 where
  pub place : ℕ
  pub behind : List ℕ
  pub next : places ≡ place ∷ behind
  pub browser : BrowserState
  pub there : slice_get mid.browsers place ≡ Some browser
  pub gave : GivesUpFor (pair_at mid browser) to

-- the first turns were taken, and then memory ran out
pub record StoppedAmid (from to : Stage) (steps : ℕ) : Type 0 where
  pub turns : List Turn
  pub mid : Stage
  pub run : AreTurns from turns mid
  pub left : List ℕ
  pub order : in_turn (length from.browsers) steps ≡ places_of turns ++ left
  pub gave : (to.worker ≡ mid.worker) ⊎ StopsAt mid left to.worker

-- by what the store marks behind it
abbrev pub Drives : (ℕ → ℕ → Type 0) → Stage → Stage → ℕ → Result Tally Memory → Type 0
Drives marked from to steps (Ok tally) = (drove : Drove from to steps tally) × AreFresh marked to drove.turns
Drives marked from to steps (Err memory) = StoppedAmid from to steps
