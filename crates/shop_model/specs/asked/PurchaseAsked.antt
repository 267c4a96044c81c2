-- What a purchase is asked for by, and the forms of it.
use Rattle.std.specs.Prelude.{ℕ, List, Option, IfSome}
use Rattle.shop_model.specs.declared.address.AddressText.{AddressText}
use Rattle.shop_model.specs.declared.card_type.CardType.{CardType}
use Rattle.shop_model.specs.declared.ship_type.ShipType.{ShipType}
use Rattle.shop_model.specs.asked.Cards.{IsCardNumber, IsMonth}
use Rattle.shop_model.specs.asked.CustomersAsked.{IsId, IsFilled, IsAddressAsked}

-- a payment card
pub record CardAsked : Type 0 where
  pub card : CardType
  pub number : List ℕ
  pub name : List ℕ
  pub expiry : List ℕ

pub record IsCardAsked (asked : CardAsked) : Type 0 where
  pub number : IsCardNumber asked.number
  pub name : IsFilled asked.name
  pub expiry : IsMonth asked.expiry

-- who buys which cart, by which card, and where it ships to, if not to the customer's address
pub record PurchaseAsked : Type 0 where
  pub c : ℕ
  pub cart : ℕ
  pub payment : CardAsked
  pub ship : ShipType
  pub address : Option AddressText

pub record IsPurchaseAsked (asked : PurchaseAsked) : Type 0 where
  pub c : IsId asked.c
  pub cart : IsId asked.cart
  pub payment : IsCardAsked asked.payment
  pub address : IfSome asked.address IsAddressAsked
