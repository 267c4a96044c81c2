-- What contracts see of a task, and of what it gives.
use Rattle.std.specs.Prelude.{ℕ}
use Rattle.shop_browsers.specs.declared.mix.Mix.{Mix}
use Rattle.shop_engine.specs.Workers.{Caller}
use Rattle.shop_drive.specs.declared.tally.Tally.{Tally}
use Rattle.shop_turn.specs.Desks.{DeskValue}
use Rattle.shop_tasks.specs.declared.task.Errand.{Errand}

-- a desk, the clock that its worker reads, whose it is, and what the browser asks for, and how often
pub record TaskValue (C : Type 0) : Type 0 where
  pub desk : DeskValue
  pub clock : C
  pub caller : Caller
  pub mix : Mix
  pub steps : ℕ

-- the caller that an errand names
abbrev pub caller_of : Errand → Caller
caller_of errand = record { number = errand.number; seed = errand.seed; scale = errand.scale }

-- a task at a desk, by its errand
abbrev pub task_of : {C : Type 0} → DeskValue → C → Errand → TaskValue C
task_of desk clock errand = record { desk = desk; clock = clock; caller = caller_of errand; mix = errand.mix; steps = errand.steps }

-- the desk, and how the requests went
pub record RacedValue : Type 0 where
  pub desk : DeskValue
  pub tally : Tally
