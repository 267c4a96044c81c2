-- A gateway that decides by its ledger, as its callers see it.
use Rattle.std.specs.Prelude.{◌≡◌, ◌≢◌, List, [], ◌∷◌, ◌++◌, Option, IfSome, AllPairs}
use Rattle.shop_edges.specs.Charges.{ChargeValue}
use Rattle.shop_edges.specs.declared.gateway.Answer.{Answer}
use Rattle.shop_edges.specs.declared.gateway.Verdict.{Verdict}
use Rattle.shop_edges.specs.declared.gateway.Verdict.TheVariants.{Approved, Denied, Failed, Memory}
use Rattle.shop_gateway.specs.Verdicts.{Key, AreVerdicts, key_of, entry_at, verdict, ledger_after, ledger_left}

-- its ledger, and all its answers
pub record EmulatorValue : Type 0 where
  pub ledger : List Answer
  pub answers : List Answer

-- an approval or a denial
abbrev pub IsSaid : Verdict → Type 0
IsSaid (Approved auth) = Unit {0}
IsSaid (Denied reason) = Unit {0}
IsSaid Failed = ⊥
IsSaid Memory = ⊥

-- no two entries have one key
abbrev pub AreApart : List Answer → Type 0
AreApart ledger = AllPairs (λ one other. key_of one.charge ≢ key_of other.charge) ledger

-- the entries of the ledger are found by their keys, and it is what its answers left of an empty one
pub record IsLedger (ledger answers : List Answer) (entries : Key → Option Answer) : Type 0 where
  pub left : ledger ≡ ledger_left [] answers
  pub verdicts : AreVerdicts [] answers
  pub found : (key : Key) → entries key ≡ entry_at ledger key
  pub said : (key : Key) → IfSome (entries key) (λ entry. IsSaid entry.verdict)
  pub apart : AreApart ledger

-- the answer is the verdict of the ledger, which is then entered and told
pub record IsDecided (old new : EmulatorValue) (charge : ChargeValue) (result : Verdict) : Type 0 where
  pub verdict : result ≡ verdict old.ledger charge
  pub ledger : new.ledger ≡ ledger_after old.ledger charge
  pub answers : new.answers ≡ old.answers ++ record { charge = charge; verdict = result } ∷ []

-- it decides, or memory ran out and nothing changed; it never fails
abbrev pub IsAuthorized : EmulatorValue → EmulatorValue → ChargeValue → Verdict → Type 0
IsAuthorized old new charge (Approved auth) = IsDecided old new charge (Approved auth)
IsAuthorized old new charge (Denied reason) = IsDecided old new charge (Denied reason)
IsAuthorized old new charge Failed = ⊥
IsAuthorized old new charge Memory = new ≡ old
