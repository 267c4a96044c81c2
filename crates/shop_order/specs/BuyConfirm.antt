-- Buy Confirm: what a purchase reads, round by round, before a gateway is asked.
use Rattle.std.specs.Prelude.{◌≡◌, ℕ, zero, suc, Bool, true, false, List, [], ◌∷◌, ◌++◌, map, Option, Some, None}
use Rattle.shop_model.specs.declared.address.AddressText.{AddressText}
use Rattle.shop_model.specs.declared.tax.TaxRule.{TaxRule}
use Rattle.shop_model.specs.declared.tax.TaxRule.TheVariants.{Flat, ByCountry}
use Rattle.shop_model.specs.asked.PurchaseAsked.{PurchaseAsked}
use Rattle.shop_model.specs.declared.requests.Request.TheVariants as request
use Rattle.shop_history.specs.declared.keys.Key.{Key}
use Rattle.shop_history.specs.declared.keys.Key.TheVariants as key
use Rattle.shop_history.specs.declared.keys.Row.{Row}
use Rattle.shop_history.specs.declared.keys.Row.TheVariants as rows
use Rattle.shop_attempt.specs.declared.attempts.ReadOf.{ReadOf}
use Rattle.shop_browse.specs.Attempts.{Asking, asking_of}
use Rattle.shop_browse.specs.Baskets.{country_read}
use Rattle.shop_browse.specs.Driver.{keys_of}
use Rattle.shop_order.specs.declared.basket.Basket.{Basket}
use Rattle.shop_order.specs.declared.buy_confirm.Paying.{Paying}
use Rattle.shop_order.specs.ShoppingCart.{lines_in}
use Rattle.shop_order.specs.Stops.{AreBought}

-- the key of the address that says the text that is given, if one is
abbrev pub text_keys : Option AddressText → List Key
text_keys None = []
text_keys (Some text) = key.SameAddress text ∷ []

-- the key of the customer's address, where no text is given
abbrev pub home_keys : Option AddressText → ℕ → List Key
home_keys None address = key.Address address ∷ []
home_keys (Some text) address = []

-- the key of where it ships to: one of these two
abbrev pub ship_key : Option AddressText → ℕ → Key
ship_key None address = key.Address address
ship_key (Some text) address = key.SameAddress text

-- the keys of the items of lines
abbrev pub item_keys : List (ℕ × ℕ) → List Key
item_keys lines = map (λ l. key.Item l.0) lines

-- the keys of the first round
abbrev pub first_keys : PurchaseAsked → List Key
first_keys asked = key.Customer asked.c ∷ key.Cart asked.cart ∷ text_keys asked.address

-- the keys of the second round
abbrev pub second_keys : Option AddressText → ℕ → List (ℕ × ℕ) → List Key
second_keys text address lines = home_keys text address ++ item_keys lines

-- the address of the customer in a row; another row has none
abbrev pub address_in : Row → ℕ
address_in (rows.Customer customer) = customer.address
address_in _ = 0

-- whether a row tells where it ships to: an address, or the id of one that says the text, if there is one
abbrev pub is_ship : Option AddressText → Row → Bool
is_ship None (rows.Address address) = true
is_ship (Some text) (rows.Id id) = true
is_ship (Some text) rows.Absent = true
is_ship _ _ = false

-- whether a row is a country
abbrev pub is_country : Row → Bool
is_country (rows.Country country) = true
is_country _ = false

-- the row that tells where it ships to, behind those of the customer and of the cart
abbrev pub ship_in : List ReadOf → Row
ship_in (buyer ∷ cart ∷ ship ∷ more) = ship.row
ship_in _ = rows.Absent

-- what the rows of the customer and of the cart come to
pub record Begins (buyer cart : Row) (basket : Basket) : Type 0 where
  pub customer : buyer ≡ rows.Customer basket.customer.now
  pub bought : AreBought cart basket.lines.now

-- the reads of the customer and of the cart, and others behind them
pub record HasFirst (asked : PurchaseAsked) (reads : List ReadOf) : Type 0 where
  pub buyer : ReadOf
  pub cart : ReadOf
  pub more : List ReadOf
  pub reads_are : reads ≡ buyer ∷ cart ∷ more
  pub buyer_is : buyer.key ≡ key.Customer asked.c
  pub cart_is : cart.key ≡ key.Cart asked.cart

-- behind these come reads of where it ships to and of the items
pub record HasSecond (asked : PurchaseAsked) (reads : List ReadOf) : Type 0 where
  pub first : HasFirst asked reads
  pub more_are : keys_of first.more ≡ ship_key asked.address (address_in first.buyer.row) ∷ item_keys (lines_in first.cart.row)

-- behind these comes a read of the country to which it ships
pub record HasThird (asked : PurchaseAsked) (reads : List ReadOf) : Type 0 where
  pub before : List ReadOf
  pub country : ReadOf
  pub reads_are : reads ≡ before ++ country ∷ []
  pub second : HasSecond asked before
  pub country_is : country.key ≡ key.Country (country_read asked.address (ship_in before))

-- the reads by the rounds; the country is read where its rate is charged
abbrev pub FollowsConfirm : PurchaseAsked → TaxRule → ℕ → List ReadOf → Type 0
FollowsConfirm asked tax zero reads = reads ≡ []
FollowsConfirm asked tax (suc zero) reads = keys_of reads ≡ first_keys asked
FollowsConfirm asked tax (suc (suc zero)) reads = HasSecond asked reads
FollowsConfirm asked Flat (suc (suc (suc more))) reads = ⊥
FollowsConfirm asked ByCountry (suc (suc (suc more))) reads = HasThird asked reads

-- what is asked for by a purchase that is to be paid
abbrev pub asking_for : Paying → Asking
asking_for paying = asking_of paying.ask.now (request.BuyConfirm paying.asked.now)
