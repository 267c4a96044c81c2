-- What comes of a future that is run.
use Rattle.std.specs.Prelude.{◌≡◌, ℕ, ◌≤◌}
use Rattle.shop_edges.specs.Causes.{Rose}
use Rattle.shop_lanes.specs.declared.runner.Ran.{Ran}
use Rattle.shop_lanes.specs.declared.runner.Ran.TheVariants as ran

-- this holds of what it gave, if it gave something
abbrev pub IfDone : {T : Type 0} → Ran T → (T → Type 0) → Type 0
IfDone (ran.Done output) P = P output
IfDone ran.Failed P = Unit {0}
IfDone ran.Memory P = Unit {0}

-- the count of faults never falls, and a run fails only where it rose
pub record RanCause {T : Type 0} (before now : ℕ) (result : Ran T) : Type 0 where
  pub later : before ≤ now
  pub failed : result ≡ ran.Failed → Rose before now
