-- What requests say of customers, and the forms of it.
use Rattle.std.specs.Prelude.{ℕ, ◌<◌, ◌≤◌, List, length, IfSome, IsUtf8}
use Rattle.shop_model.specs.declared.address.AddressText.{AddressText}
use Rattle.shop_model.specs.declared.requests.IdsAsked.{IdsAsked}
use Rattle.shop_model.specs.rows.Limits.{text_limit}
use Rattle.shop_model.specs.rows.Sound.{Has}

-- an id that 32 bits hold
abbrev pub IsId : ℕ → Type 0
IsId id = id ≤ 4_294_967_295

-- the ids that a request carries along
abbrev pub IsIdsAsked : IdsAsked → Type 0
IsIdsAsked ids = IfSome ids.c IsId × IfSome ids.cart IsId

-- a text of a form: UTF-8, not empty, and short
pub record IsFilled (text : List ℕ) : Type 0 where
  pub some : 0 < length text
  pub short : length text ≤ text_limit
  pub utf8 : IsUtf8 text

-- the same, which may be empty
pub record IsShort (text : List ℕ) : Type 0 where
  pub short : length text ≤ text_limit
  pub utf8 : IsUtf8 text

-- a name to log in with, and a password
pub record LoginAsked : Type 0 where
  pub user : List ℕ
  pub pass : List ℕ

pub record IsLoginAsked (asked : LoginAsked) : Type 0 where
  pub user : IsFilled asked.user
  pub pass : IsShort asked.pass

-- the texts of an address, and a country that there is
pub record IsAddressAsked (text : AddressText) : Type 0 where
  pub street1 : IsFilled text.street1
  pub street2 : IsShort text.street2
  pub city : IsFilled text.city
  pub state : IsShort text.state
  pub zip : IsFilled text.zip
  pub country : Has 92 text.country

-- a new customer
pub record NewcomerAsked : Type 0 where
  pub first : List ℕ
  pub last : List ℕ
  pub address : AddressText
  pub phone : List ℕ
  pub email : List ℕ

pub record IsNewcomerAsked (asked : NewcomerAsked) : Type 0 where
  pub first : IsFilled asked.first
  pub last : IsFilled asked.last
  pub address : IsAddressAsked asked.address
  pub phone : IsFilled asked.phone
  pub email : IsFilled asked.email
