-- A gateway that fails at listed calls, as its callers see it.
use Rattle.std.specs.Prelude.{◌≡◌, ℕ, ◌==◌, Bool, List}
use Rattle.std.specs.List.{list_any}
use Rattle.shop_edges.specs.Causes.{count_up, Rose}
use Rattle.shop_edges.specs.declared.gateway.Verdict.{Verdict}
use Rattle.shop_edges.specs.declared.gateway.Verdict.TheVariants.{Approved, Denied, Failed, Memory}

-- the gateway that it asks; the calls that fail, counted from 1; and how many calls and faults there were
pub record Script (G : Type 0) : Type 0 where
  pub inner : G
  pub fails : List ℕ
  pub calls : ℕ
  pub faults : ℕ

-- the next call is listed as one that fails
abbrev pub is_listed : {G : Type 0} → Script G → Bool
is_listed s = list_any (λ call. call == count_up s.calls) s.fails

-- exactly a call that failed counts a fault
abbrev pub faults_after : Verdict → ℕ → ℕ
faults_after (Approved auth) faults = faults
faults_after (Denied reason) faults = faults
faults_after Failed faults = count_up faults
faults_after Memory faults = faults

-- after a call with this verdict, which left the other gateway so
abbrev pub called : {G : Type 0} → Script G → G → Verdict → Script G
called s inner verdict =
    record s { inner = inner; calls = count_up s.calls; faults = faults_after verdict s.faults }

-- a listed call fails, and the other gateway isn't asked
abbrev pub IsListed : {G : Type 0} → G → G → Verdict → Type 0
IsListed old new verdict = (verdict ≡ Failed) × (new ≡ old)

-- another call fails only where the count of the gateway that is asked rose
abbrev pub IsPassed : ℕ → ℕ → Verdict → Type 0
IsPassed before now verdict = verdict ≡ Failed → Rose before now
