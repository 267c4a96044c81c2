-- What tasks promise, and what comes of several of them.
use Rattle.std.specs.Prelude.{◌≡◌, ℕ, Bool, true, false, List, [], ◌∷◌, ◌++◌, length, map, All, Contains, Option, Some, Result, Ok, IfOk}
use Rattle.std.specs.List.{AllZip}
use Rattle.shop_text.specs.declared.memory.Memory.{Memory as NoMemory}
use Rattle.shop_book.specs.Books.{BookValue}
use Rattle.shop_browsers.specs.Browsers.{BrowserState, new_browser}
use Rattle.shop_drive.specs.Drives.{Drives}
use Rattle.shop_drive.specs.Turns.{Stage}
use Rattle.shop_edges.specs.Causes.{Rose}
use Rattle.shop_edges.specs.Starts.{MayGive, Spawning}
use Rattle.shop_edges.specs.declared.gateway.Answer.{Answer}
use Rattle.shop_edges.specs.declared.ticket.Begun.{Begun}
use Rattle.shop_engine.specs.Workers.{WorkerState, at_first, standing}
use Rattle.shop_gateway.specs.Verdicts.{AreVerdicts}
use Rattle.shop_turn.specs.Desks.{DeskValue, marks_of, seat_of}
use Rattle.shop_turn.specs.Shops.{Closes}
use Rattle.shop_tasks.specs.declared.running.Ran.{Ran}
use Rattle.shop_tasks.specs.declared.running.Ran.TheVariants.{Done, NotStarted, Memory}
use Rattle.shop_places.specs.Counts.{counted}
use Rattle.shop_tasks.specs.TaskValues.{RacedValue, TaskValue}

-- what came of tasks, by whether all were started, and memory ran out in none
abbrev pub ended : Bool → Bool → BookValue → Ran
ended true true book = Done book
ended true false book = Memory
ended false driven book = NotStarted book

-- where a worker and the browser that it serves stand, before its gateway was asked
abbrev pub stage_of : WorkerState DeskValue → Option (List ℕ) → BrowserState → Stage
stage_of worker clock browser =
    record { worker = standing seat_of worker clock (Some []); browsers = browser ∷ []; failures = 0 }

-- the browser took all its turns over the desk. Its gateway never failed, and what it answered are its verdicts
pub record Races (before : Stage) (steps : ℕ) (raced : RacedValue) : Type 0 where
  pub after : Stage
  pub answers : List Answer
  pub drives : Drives (marks_of raced.desk) before after steps (Ok raced.tally)
  pub seat : after.worker.seat ≡ seat_of raced.desk
  pub unfailing : after.failures ≡ 0
  pub told : after.worker.told ≡ Some answers
  pub verdicts : AreVerdicts [] answers

module _ {C : Type 0} (readings : C → Option (List ℕ)) where
  -- where the worker of a task and its browser begin
  abbrev pub first_stage : TaskValue C → Stage
  first_stage task = record {
    worker = record {
      caller = task.caller;
      progress = at_first;
      kept = [];
      seat = seat_of task.desk;
      clock = readings task.clock;
      told = Some [];
    };
    browsers = new_browser task.caller.seed task.caller.number task.mix task.caller.scale ∷ [];
    failures = 0;
  }

  -- what a task promises, where memory did not run out
  abbrev pub Promises : TaskValue C → Result RacedValue NoMemory → Type 0
  Promises task out = IfOk out (Races (first_stage task) task.steps)

  -- whatever comes of the ticket, the task promises
  abbrev pub IsTicketOf : TaskValue C → Begun (TaskValue C) (Result RacedValue NoMemory) → Type 0
  IsTicketOf task ticket = (out : Result RacedValue NoMemory) → MayGive Promises ticket out → Promises task out

  -- the first tasks were started, and these are their tickets; all were, or a start failed
  pub record Starts (tasks : List (TaskValue C)) (tickets : List (Begun (TaskValue C) (Result RacedValue NoMemory))) (all : Bool) (old new : Spawning) : Type 0 where
    pub begun : List (TaskValue C)
    pub left : List (TaskValue C)
    pub split : tasks ≡ begun ++ left
    pub are : AllZip IsTicketOf begun tickets
    pub whole : all ≡ true → left ≡ []
    pub failed : all ≡ false → Rose old.faults new.faults
    pub starts : new.starts ≡ counted (length begun) old.starts

  -- a desk that one of these tickets gave
  abbrev pub IsGiven : List (Begun (TaskValue C) (Result RacedValue NoMemory)) → DeskValue → Type 0
  IsGiven tickets desk =
      (ticket : Begun (TaskValue C) (Result RacedValue NoMemory)) × Contains tickets ticket × (one : RacedValue) × MayGive Promises ticket (Ok one) × (desk ≡ one.desk)

  -- each ticket gave a desk, or memory ran out in a task; each desk is given by one
  pub record Joins (tickets : List (Begun (TaskValue C) (Result RacedValue NoMemory))) (desks : List DeskValue) (all : Bool) : Type 0 where
    pub given : all ≡ true → (raced : List RacedValue) × AllZip (λ ticket one. MayGive Promises ticket (Ok one)) tickets raced × (desks ≡ map (λ one. one.desk) raced)
    pub each : All (IsGiven tickets) desks

  -- each task was started, and each browser took all its turns; the shop was closed with their desks and this one
  pub record AreDone (own : DeskValue) (tasks : List (TaskValue C)) (old new : Spawning) (book : BookValue) : Type 0 where
    pub raced : List RacedValue
    pub kept : AllZip (λ task one. Races (first_stage task) task.steps one) tasks raced
    pub closes : Closes own.origin (own ∷ map (λ one. one.desk) raced) book
    pub starts : new.starts ≡ counted (length tasks) old.starts

  -- the desk of one of these tasks, whose browser took all its turns
  abbrev pub IsBack : List (TaskValue C) → DeskValue → Type 0
  IsBack tasks desk = (task : TaskValue C) × Contains tasks task × (one : RacedValue) × Races (first_stage task) task.steps one × (desk ≡ one.desk)

  -- a start failed, and the shop was closed with the desks that came back and this one
  pub record AreStopped (own : DeskValue) (tasks : List (TaskValue C)) (old new : Spawning) (book : BookValue) : Type 0 where
    pub failed : Rose old.faults new.faults
    pub desks : List DeskValue
    pub back : All (IsBack tasks) desks
    pub closes : Closes own.origin (own ∷ desks) book

  -- by what came of the tasks
  abbrev pub RanAs : DeskValue → List (TaskValue C) → Spawning → Spawning → Ran → Type 0
  RanAs own tasks old new (Done book) = AreDone own tasks old new book
  RanAs own tasks old new (NotStarted book) = AreStopped own tasks old new book
  RanAs own tasks old new Memory = Unit {0}
