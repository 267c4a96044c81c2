-- How often a gateway is asked: never for the charge that it answered last.
use Rattle.std.specs.Prelude.{◌≡◌, ◌≢◌, ℕ, ◌≤◌, List, [], ◌∷◌, length, All, Option, Some, None}
use Rattle.shop_model.specs.asked.PurchaseAsked.{PurchaseAsked}
use Rattle.shop_edges.specs.declared.charge.Call.{Call}
use Rattle.shop_edges.specs.declared.gateway.Answer.{Answer}
use Rattle.shop_edges.specs.Charges.{ChargeValue, charge_to}
use Rattle.shop_edges.specs.Gateways.{Answered}

-- the answer that is kept is not to this charge
abbrev pub IsOther : Option Answer → ChargeValue → Type 0
IsOther None charge = Unit {0}
IsOther (Some kept) charge = kept.charge ≢ charge

-- answers that came one after another, each to another charge than the one before it, and the last of them is kept
abbrev pub Keeps : Option Answer → List Answer → Option Answer → Type 0
Keeps kept [] now = now ≡ kept
Keeps kept (answer ∷ answers) now = IsOther kept answer.charge × Keeps (Some answer) answers now

-- an answer to a charge for a purchase, which is asked for in a call
pub record IsFor (asked : PurchaseAsked) (call : Call) (answer : Answer) : Type 0 where
  pub cents : ℕ
  pub charge : answer.charge ≡ charge_to asked call cents

-- a gateway was asked once at most, for a purchase, and not for the charge of the answer that was kept
pub record AsksOnce (asked : PurchaseAsked) (call : Call) (kept now : Option Answer) (told told' : Option (List Answer)) : Type 0 where
  pub answers : List Answer
  pub few : length answers ≤ 1
  pub charges : All (IsFor asked call) answers
  pub keeps : Keeps kept answers now
  pub answered : Answered told told' answers
