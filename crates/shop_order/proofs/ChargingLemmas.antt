-- A gateway that is asked for the charge of a purchase is asked for the purchase.
use Rattle.std.proofs.Common.{◌≡◌, ℕ, List, Option, ◌∙◌}
use Rattle.std.proofs.lemmas.List.Elements.{All-weaker}
use Rattle.shop_model.specs.asked.PurchaseAsked.{PurchaseAsked}
use Rattle.shop_edges.specs.declared.charge.Call.{Call}
use Rattle.shop_edges.specs.declared.gateway.Answer.{Answer}
use Rattle.shop_edges.specs.Charges.{ChargeValue, charge_to}
use Rattle.shop_edges.specs.Payments.{IsFor, AsksOnce}
use Rattle.shop_order.specs.Charging.{Asks}

pub asks_once : (asked : PurchaseAsked) (call : Call) (cents : ℕ) (charge : ChargeValue) (kept now : Option Answer) (told told' : Option (List Answer)) → charge ≡ charge_to asked call cents
    → Asks charge kept now told told' → AsksOnce asked call kept now told told'
asks_once asked call cents charge kept now told told' is asks = record {
  answers = asks.answers;
  few = asks.few;
  charges = All-weaker (λ (a : Answer). a.charge ≡ charge) (IsFor asked call) (λ a same. record { cents = cents; charge = same ∙ is }) asks.answers asks.charges;
  keeps = asks.keeps;
  answered = asks.answered;
}
