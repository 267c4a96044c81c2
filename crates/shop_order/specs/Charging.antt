-- A charge, the answer that is kept, and how often a gateway is asked.
use Rattle.std.specs.Prelude.{◌≡◌, ◌≤◌, List, length, All, Option, Some, None}
use Rattle.shop_edges.specs.declared.gateway.Answer.{Answer}
use Rattle.shop_edges.specs.declared.gateway.Verdict.{Verdict}
use Rattle.shop_edges.specs.declared.gateway.Verdict.TheVariants.{Approved, Denied, Failed, Memory}
use Rattle.shop_edges.specs.Charges.{ChargeValue}
use Rattle.shop_edges.specs.Gateways.{Answered}
use Rattle.shop_edges.specs.Payments.{IsOther, Keeps}

-- this verdict is kept on the charge, or the answer that is kept is not to it
abbrev pub IsKeptFor : Option Answer → ChargeValue → Option Verdict → Type 0
IsKeptFor kept charge None = IsOther kept charge
IsKeptFor kept charge (Some verdict) = kept ≡ Some (record { charge = charge; verdict = verdict })

-- what is kept after a verdict on a charge: an approval or a denial is
abbrev pub kept_after : Option Answer → ChargeValue → Verdict → Option Answer
kept_after kept charge (Approved auth) = Some (record { charge = charge; verdict = Approved auth })
kept_after kept charge (Denied reason) = Some (record { charge = charge; verdict = Denied reason })
kept_after kept charge Failed = kept
kept_after kept charge Memory = kept

-- an approval or a denial of this charge is kept
abbrev pub IsKept : Option Answer → ChargeValue → Verdict → Type 0
IsKept kept charge verdict = kept ≡ kept_after kept charge verdict

-- a gateway was asked once at most, for this charge, and not where the answer that was kept is to it
pub record Asks (charge : ChargeValue) (kept now : Option Answer) (told told' : Option (List Answer)) : Type 0 where
  pub answers : List Answer
  pub few : length answers ≤ 1
  pub charges : All (λ a. a.charge ≡ charge) answers
  pub keeps : Keeps kept answers now
  pub answered : Answered told told' answers

-- what is made of a verdict that was kept: an approval and a denial stand, and no other is acted on
abbrev pub known : Verdict → Verdict
known (Approved auth) = Approved auth
known (Denied reason) = Denied reason
known Failed = Memory
known Memory = Memory
