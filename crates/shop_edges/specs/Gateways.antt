-- What a gateway tells of its answers, where they are known, and its count of faults.
use Rattle.std.specs.Prelude.{◌≡◌, ℕ, ◌≤◌, List, [], ◌∷◌, ◌++◌, Option, Some}
use Rattle.shop_edges.specs.Causes.{Rose}
use Rattle.shop_edges.specs.Charges.{ChargeValue}
use Rattle.shop_edges.specs.declared.gateway.Answer.{Answer}
use Rattle.shop_edges.specs.declared.gateway.Verdict.{Verdict}
use Rattle.shop_edges.specs.declared.gateway.Verdict.TheVariants.{Approved, Denied, Failed, Memory}

-- where it told its answers, it tells these behind them
pub record Answered (old new : Option (List Answer)) (more : List Answer) : Type 0 where
  pub told : (was : List Answer) → old ≡ Some was → new ≡ Some (was ++ more)

-- an approval and a denial are answers, a failure and want of memory are none
abbrev pub answers_of : ChargeValue → Verdict → List Answer
answers_of charge (Approved auth) = record { charge = charge; verdict = Approved auth } ∷ []
answers_of charge (Denied reason) = record { charge = charge; verdict = Denied reason } ∷ []
answers_of charge Failed = []
answers_of charge Memory = []

-- it tells its answer to this charge, where this verdict is one
abbrev pub Answers : Option (List Answer) → Option (List Answer) → ChargeValue → Verdict → Type 0
Answers old new charge verdict = Answered old new (answers_of charge verdict)

-- the count of faults never falls, and a call fails only where it rose
pub record GatewayCause (before now : ℕ) (result : Verdict) : Type 0 where
  pub later : before ≤ now
  pub failed : result ≡ Failed → Rose before now
