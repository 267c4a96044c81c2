-- What a race tells, by what came of its tasks.
use Rattle.std.specs.Prelude.{◌≡◌, ℕ, List, Result, Ok, Err}
use Rattle.shop_tasks.specs.declared.running.Ran.{Ran}
use Rattle.shop_tasks.specs.declared.running.Ran.TheVariants as ran
use Rattle.shop_app.specs.declared.status.Status.{Status}
use Rattle.shop_app.specs.declared.status.Status.TheVariants as status
use Rattle.shop_app.specs.Summaries.{race_lines}

-- the lines of the book of the shop, or why there are none
abbrev pub TellsOfRan : ℕ → Ran → Result (List ℕ) Status → Type 0
TellsOfRan workers (ran.Done book) (Ok lines) = lines ≡ race_lines workers book
TellsOfRan workers (ran.Done book) (Err why) = why ≡ status.Memory
TellsOfRan workers (ran.NotStarted book) result = result ≡ Err status.WorkerFault
TellsOfRan workers ran.Memory result = result ≡ Err status.Memory
