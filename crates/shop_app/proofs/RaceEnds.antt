-- What a race tells is what came of its tasks.
use Rattle.std.proofs.Common.{◌≤◌, ℕ, List, Option, Result, Ok, Err, ◌∙◌, sym, ap, subst}
use Rattle.shop_edges.specs.Starts.{Spawning}
use Rattle.shop_attempt.specs.Seats.{last_count}
use Rattle.shop_turn.specs.Desks.{DeskValue}
use Rattle.shop_tasks.specs.declared.running.Ran.{Ran}
use Rattle.shop_tasks.specs.declared.running.Ran.TheVariants as ran
use Rattle.shop_places.specs.Counts.{counted}
use Rattle.shop_tasks.specs.Tasks.{RanAs}
use Rattle.shop_tasks.specs.TaskValues.{TaskValue}
use Rattle.shop_words.specs.declared.command.Race.{Race}
use Rattle.shop_app.specs.declared.status.Status.{Status}
use Rattle.shop_app.specs.RaceEnds.{TellsOfRan}
use Rattle.shop_app.specs.Racing.{OpensRace, RacedTo}
use Rattle.shop_app.specs.Shared.{Tells}
use Rattle.shop_app.proofs.RaceLemmas.{raced_to, tasks_count}

module _ {C : Type 0} (readings : C → Option (List ℕ)) (race : Race) (clock : Option (List ℕ)) (own : DeskValue) (tasks : List (TaskValue C)) (opens : OpensRace readings race clock own tasks) (old new : Spawning) where
  abbrev Told : Result (List ℕ) Status → Type 0
  Told = Tells (RacedTo race clock) race.workers ⊥ old new

  pub race_told : race.steps ≤ last_count → (ran : Ran) (result : Result (List ℕ) Status) → RanAs readings own tasks old new ran → TellsOfRan race.workers ran result → Told result
  race_told few (ran.Done book) (Ok lines) done is =
      (raced_to readings race clock own tasks opens old new book done few lines is, done.starts ∙ ap (λ n. counted n old.starts) (tasks_count readings race clock own tasks opens))
  race_told few (ran.Done book) (Err why) done is = subst (λ (w : Status). Told (Err w)) (sym is) tt
  race_told few (ran.NotStarted book) result stopped is = subst Told (sym is) stopped.failed
  race_told few ran.Memory result none is = subst Told (sym is) tt
