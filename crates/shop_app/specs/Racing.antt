-- What a race does, by its status.
use Rattle.std.specs.Prelude.{◌≡◌, ℕ, ◌+◌, ◌≤◌, List, [], ◌∷◌, ◌++◌, flat_map, All, Option, Some}
use Rattle.std.specs.List.{AllZip}
use Rattle.shop_log.specs.Histories.{Extends}
use Rattle.shop_gateway.specs.Verdicts.{verdict}
use Rattle.shop_model.specs.population.Population.{populated}
use Rattle.shop_history.specs.declared.acts.Entry.{Entry}
use Rattle.shop_history.specs.Lawful.{IsLawful}
use Rattle.shop_history.specs.Logs.{entries_of}
use Rattle.shop_book.specs.Books.{BookValue}
use Rattle.shop_book.specs.Openings.{most_entries}
use Rattle.shop_turn.specs.Desks.{DeskValue}
use Rattle.shop_turn.specs.Shops.{Opens}
use Rattle.shop_browsers.specs.Browsers.{new_browser}
use Rattle.shop_engine.specs.Failures.{failures}
use Rattle.shop_engine.specs.Fresh.{IsFreshIn}
use Rattle.shop_drive.specs.declared.tally.Tally.{Tally}
use Rattle.shop_drive.specs.Drives.{Drove, greatest_moment, points_of}
use Rattle.shop_drive.specs.Turns.{Stage}
use Rattle.shop_tasks.specs.TaskValues.{TaskValue}
use Rattle.shop_words.specs.declared.command.Race.{Race}
use Rattle.shop_app.specs.declared.status.Status.{Status}
use Rattle.shop_app.specs.NewShops.{caller_of, first_standing_at, new_book}
use Rattle.shop_app.specs.Shared.{Comes, Shared}
use Rattle.shop_app.specs.Summaries.{race_lines}

-- as many workers, steps and changes as words may ask for
pub record IsWithin (race : Race) : Type 0 where
  pub one : 1 ≤ race.workers
  pub workers : race.workers ≤ 16
  pub steps : race.steps ≤ 100_000
  pub limit : race.shop.limit ≤ most_entries

-- where a caller's worker and its browser stand before the race
abbrev pub first_stage_at : List ℕ → Race → ℕ → Option (List ℕ) → Stage
first_stage_at shop race number clock = record {
  worker = first_standing_at shop race.shop number clock (Some []);
  browsers = new_browser race.shop.seed number race.mix race.shop.scale ∷ [];
  failures = 0;
}

-- the task of a desk's caller before it is run
pub record IsFirstTask {C : Type 0} (readings : C → Option (List ℕ)) (race : Race) (clock : Option (List ℕ)) (desk : DeskValue) (task : TaskValue C) : Type 0 where
  pub desk_is : task.desk ≡ desk
  pub caller : task.caller ≡ caller_of race.shop desk.number
  pub readings_are : readings task.clock ≡ clock
  pub mix_is : task.mix ≡ race.mix
  pub steps_are : task.steps ≡ race.steps

-- the tasks of the callers at these desks
abbrev pub AreFirstTasks : {C : Type 0} → (C → Option (List ℕ)) → Race → Option (List ℕ) → List DeskValue → List (TaskValue C) → Type 0
AreFirstTasks readings race clock = AllZip (IsFirstTask readings race clock)

-- a race is laid out: a desk for each worker, with its task, and one more that is nobody's
pub record OpensRace {C : Type 0} (readings : C → Option (List ℕ)) (race : Race) (clock : Option (List ℕ)) (own : DeskValue) (tasks : List (TaskValue C)) : Type 0 where
  pub desks : List DeskValue
  pub opens : Opens (new_book race.shop) (race.workers + 1) (desks ++ own ∷ [])
  pub tasks_are : AreFirstTasks readings race clock desks tasks

-- a caller's browser took all its turns over a desk, with a clock of the same time and a gateway of its own. The log
-- begins with what the desk has seen, and of the caller it has what these turns made, each once and in order; each list that was kept is
-- fresh of it; the gateway never failed, and each of its verdicts is that of an empty ledger
pub record RacedBy (race : Race) (clock : Option (List ℕ)) (log : List Entry) (number : ℕ) : Type 0 where
  pub shop : List ℕ
  pub after : Stage
  pub tally : Tally
  pub drove : Drove (first_stage_at shop race number clock) after race.steps tally
  pub grows : Extends after.worker.seat.seen log
  pub made : entries_of number log ≡ flat_map (λ t. t.step.made) drove.turns
  pub fresh : All (IsFreshIn log) (points_of drove.turns)
  pub unfailing : failures (points_of drove.turns) ≡ 0
  pub verdicts : All (λ a. a.verdict ≡ verdict [] a.charge) (flat_map (λ t. t.step.answers) drove.turns)

-- the browsers of all callers took their turns at one shop: its log is lawful, each entry is one caller's, and its stamp
-- is no later than the moments of some caller's answers. The lines tell what the log came to
pub record RacedTo (race : Race) (clock : Option (List ℕ)) (lines : List ℕ) : Type 0 where
  pub book : BookValue
  pub opened : book.opening.tables ≡ populated race.shop.seed race.shop.scale
  pub lawful : IsLawful (populated race.shop.seed race.shop.scale) book.log
  pub callers : All (λ e. (1 ≤ e.caller) × (e.caller ≤ race.workers)) book.log
  pub each : (number : ℕ) → 1 ≤ number → number ≤ race.workers → RacedBy race clock book.log number
  pub stamps : All (λ e. (number : ℕ) × (one : 1 ≤ number) × (most : number ≤ race.workers)
      × (e.stamp ≤ greatest_moment (points_of (each number one most).drove.turns))) book.log
  pub printed : lines ≡ race_lines race.workers book

-- what the status of a race says
abbrev pub IsRaced : Race → Option (List ℕ) → Shared → Shared → Status → Type 0
IsRaced race clock = Comes (RacedTo race clock) race.workers ⊥
