-- What a payment gateway is asked for.
use Rattle.std.specs.Prelude.{ℕ, List, Option, Some, None}
use Rattle.shop_model.specs.declared.card_type.CardType.{CardType}
use Rattle.shop_model.specs.declared.refusal.Refusal as told
use Rattle.shop_model.specs.declared.tables.Tables.{Tables}
use Rattle.shop_model.specs.declared.tax.TaxRule.{TaxRule}
use Rattle.shop_model.specs.asked.Cards.{IsCardNumber, IsMonth}
use Rattle.shop_model.specs.asked.PurchaseAsked.{PurchaseAsked}
use Rattle.shop_model.specs.rows.Lookups.{row_numbered}
use Rattle.shop_model.specs.rows.Rows.{CustomerRow}
use Rattle.shop_model.specs.trade.Sales.{price_of}
use Rattle.shop_edges.specs.declared.charge.Call.{Call}
use Rattle.shop_edges.specs.declared.gateway.Reason.{Reason}
use Rattle.shop_edges.specs.declared.gateway.Reason.TheVariants.{Reused, Stolen, Limit}

-- a charge: who asks for it, in which call, how many cents, and the card
pub record ChargeValue : Type 0 where
  pub caller : ℕ
  pub call : ℕ
  pub cents : ℕ
  pub card : CardType
  pub number : List ℕ
  pub expiry : List ℕ

-- the card is named in its forms
pub record IsCharge (charge : ChargeValue) : Type 0 where
  pub number : IsCardNumber charge.number
  pub expiry : IsMonth charge.expiry

-- the charge of so many cents to the card of a purchase, which is asked for in a call
abbrev pub charge_to : PurchaseAsked → Call → ℕ → ChargeValue
charge_to asked call cents = record {
  caller = call.caller;
  call = call.number;
  cents = cents;
  card = asked.payment.card;
  number = asked.payment.number;
  expiry = asked.payment.expiry;
}

-- what a purchase costs; there is a customer where the check is none
abbrev pub cents_due : Tables → TaxRule → PurchaseAsked → Option CustomerRow → ℕ
cents_due t tax asked None = 0
cents_due t tax asked (Some customer) = (price_of t tax customer asked).total

-- what a purchase is charged that is taxed by a rule
abbrev pub charge_due : Tables → TaxRule → PurchaseAsked → Call → ChargeValue
charge_due t tax asked call = charge_to asked call (cents_due t tax asked (row_numbered t.customers asked.c))

-- the refusal that tells why a card was denied
abbrev pub denial : Reason → told.Refusal
denial Reused = told.TheVariants.CardReused
denial Stolen = told.TheVariants.CardStolen
denial Limit = told.TheVariants.CardOverLimit
