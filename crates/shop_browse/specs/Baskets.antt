-- What a purchase reads: its customer, its cart, where it ships to, the items of the cart's lines, and the country
-- that its tax rests on.
use Rattle.std.specs.Prelude.{◌≡◌, ◌≢◌, ℕ, List, [], ◌∷◌, ◌++◌, map, Option, Some, None}
use Rattle.shop_model.specs.declared.address.Address.{Address}
use Rattle.shop_model.specs.declared.address.AddressText.{AddressText}
use Rattle.shop_model.specs.declared.requests.Request.{Request}
use Rattle.shop_model.specs.declared.requests.Request.TheVariants.{BuyConfirm}
use Rattle.shop_model.specs.declared.tax.TaxRule.{TaxRule}
use Rattle.shop_model.specs.declared.tax.TaxRule.TheVariants.{Flat, ByCountry}
use Rattle.shop_model.specs.asked.PurchaseAsked.{PurchaseAsked}
use Rattle.shop_model.specs.lists.Catalogues.{Catalogue}
use Rattle.shop_model.specs.rows.Rows.{CartRow, CountryRow, CustomerRow}
use Rattle.shop_history.specs.declared.keys.Key.TheVariants as key
use Rattle.shop_history.specs.declared.keys.Row.{Row}
use Rattle.shop_history.specs.declared.keys.Row.TheVariants as row
use Rattle.shop_history.specs.Keys.{shown}
use Rattle.shop_attempt.specs.declared.attempts.ReadOf.{ReadOf}
use Rattle.shop_browse.specs.Fitting.{keys_of, AreSeen}

-- where a purchase ships to, as it was read: the customer's address, or the id of the one that says the text
-- that is given, if there is one
abbrev pub IsShip : Option AddressText → CustomerRow → ReadOf → Type 0
IsShip None customer read =
    (address : Address) × (read.key ≡ key.Address customer.address) × (read.row ≡ row.Address address)
IsShip (Some text) customer read =
    (found : Option ℕ) × (read.key ≡ key.SameAddress text) × (read.row ≡ shown row.Id found)

-- the country to which it ships: that of the text, or of the address that was read
abbrev pub country_read : Option AddressText → Row → ℕ
country_read (Some text) ship = text.country
country_read None (row.Address address) = address.text.country
country_read None _ = 0

-- the country is read last, where its rate is charged
abbrev pub IsTaxed : TaxRule → ℕ → List ReadOf → Type 0
IsTaxed Flat country rest = rest ≡ []
IsTaxed ByCountry country rest =
    (read : ReadOf) × (shown : CountryRow) × (rest ≡ read ∷ []) × (read.key ≡ key.Country country) × (read.row ≡ row.Country shown)

-- what a purchase read: a customer, a cart with some lines, where it ships to, the items of the lines, and what its tax rests on
pub record IsBasket (tax : TaxRule) (asked : PurchaseAsked) (reads : List ReadOf) : Type 0 where
  pub buyer : ReadOf
  pub basket : ReadOf
  pub ship : ReadOf
  pub items : List ReadOf
  pub rest : List ReadOf
  pub reads_are : reads ≡ buyer ∷ basket ∷ ship ∷ (items ++ rest)
  pub customer : CustomerRow
  pub buyer_key : buyer.key ≡ key.Customer asked.c
  pub buyer_row : buyer.row ≡ row.Customer customer
  pub cart : CartRow
  pub basket_key : basket.key ≡ key.Cart asked.cart
  pub basket_row : basket.row ≡ row.Cart cart
  pub some : cart.lines ≢ []
  pub ship_is : IsShip asked.address customer ship
  pub items_are : keys_of items ≡ map (λ l. key.Item l.0) cart.lines
  pub taxed : IsTaxed tax (country_read asked.address ship.row) rest

-- a request that is a purchase read this
abbrev pub IsBasketFor : TaxRule → Request → List ReadOf → Type 0
IsBasketFor tax request reads = (asked : PurchaseAsked) × (request ≡ BuyConfirm asked) × IsBasket tax asked reads

-- each of these rows was shown by some sound tables that opened with the catalogue
pub record HasBasket (c : Catalogue) (tax : TaxRule) (request : Request) (reads : List ReadOf) : Type 0 where
  pub basket : IsBasketFor tax request reads
  pub seen : AreSeen c reads
