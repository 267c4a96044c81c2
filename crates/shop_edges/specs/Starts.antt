-- What becomes of a job that is started, and a spawner's counts.
use Rattle.std.specs.Prelude.{◌≡◌, ℕ, ◌≤◌, Bool, false, ◌==◌}
use Rattle.std.specs.List.{list_any}
use Rattle.shop_edges.specs.Causes.{Rose, count_up}
use Rattle.shop_edges.specs.declared.ticket.Begun.{Begun}
use Rattle.shop_edges.specs.declared.ticket.Begun.TheVariants.{Done, Running}
use Rattle.shop_edges.specs.declared.spawner.Start.{Start}
use Rattle.shop_edges.specs.declared.spawner.Start.TheVariants.{Started, Failed}
use Rattle.shop_edges.specs.declared.spawner.Way.{Way}
use Rattle.shop_edges.specs.declared.spawner.Way.TheVariants.{Threads, AtOnce, Failing}

-- a job that is done gives what it gave, and one that runs gives what it promises
abbrev pub MayGive : {J T : Type 0} → (J → T → Type 0) → Begun J T → T → Type 0
MayGive promises (Done given) out = out ≡ given
MayGive promises (Running job) out = promises job out

-- whatever may come of a started job, it promises
abbrev pub KeepsPromise : {J T : Type 0} → (J → T → Type 0) → J → Start (Begun J T) → Type 0
KeepsPromise {T = T} promises job (Started ticket) = (out : T) → MayGive promises ticket out → promises job out
KeepsPromise promises job Failed = Unit {0}

-- the call is listed as one that fails
abbrev pub is_listed : Way → ℕ → Bool
is_listed Threads call = false
is_listed AtOnce call = false
is_listed (Failing fails) call = list_any (λ listed. listed == call) fails

-- a start fails at a listed call, and else only where no thread can be made
abbrev pub CanStart : {T : Type 0} → Way → ℕ → Start T → Type 0
CanStart way call (Started ticket) = is_listed way call ≡ false
CanStart way call Failed = is_listed way call ≡ false → way ≡ Threads

-- how jobs are run, and how many calls, starts and faults there were
pub record Spawning : Type 0 where
  pub way : Way
  pub calls : ℕ
  pub starts : ℕ
  pub faults : ℕ

-- exactly a job that was started counts a start, and exactly one that failed a fault
abbrev pub after_start : {T : Type 0} → Start T → Spawning → Spawning
after_start (Started ticket) s = record s { calls = count_up s.calls; starts = count_up s.starts }
after_start Failed s = record s { calls = count_up s.calls; faults = count_up s.faults }

-- the count of faults never falls, and a start fails only where it rose
pub record StartCause {T : Type 0} (before now : ℕ) (result : Start T) : Type 0 where
  pub later : before ≤ now
  pub failed : result ≡ Failed → Rose before now
