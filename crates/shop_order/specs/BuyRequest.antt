-- Buy Request: what a request reads, where it stops, and what it has when all is read: last the country in which the
-- buyer lives, whose rate is shown.
use Rattle.std.specs.Prelude.{◌≡◌, ℕ, ◌≤◌, zero, suc, List, [], ◌∷◌, ◌++◌, map, Option, Some, None}
use Rattle.shop_model.specs.declared.buying.BuyRequest.{BuyRequest}
use Rattle.shop_model.specs.declared.buying.Buyer.{Buyer}
use Rattle.shop_model.specs.declared.buying.Buyer.TheVariants.{Returning, Newcomer}
use Rattle.shop_model.specs.declared.refusal.Refusal.{Refusal}
use Rattle.shop_model.specs.declared.refusal.Refusal.TheVariants.{NoUserName}
use Rattle.shop_model.specs.declared.requests.Request.TheVariants as buys
use Rattle.shop_model.specs.asked.CustomersAsked.{LoginAsked}
use Rattle.shop_model.specs.rows.Rows.{CustomerRow}
use Rattle.shop_model.specs.trade.Buyers.{check_password}
use Rattle.shop_history.specs.declared.keys.Key.{Key}
use Rattle.shop_history.specs.declared.keys.Key.TheVariants as key
use Rattle.shop_history.specs.declared.keys.Row.{Row}
use Rattle.shop_history.specs.declared.keys.Row.TheVariants as rows
use Rattle.shop_history.specs.Keys.{shown}
use Rattle.shop_draft.specs.declared.draft.Draft.{Draft}
use Rattle.shop_attempt.specs.declared.attempts.ReadOf.{ReadOf}
use Rattle.shop_browse.specs.declared.attempted.Ask.{Ask}
use Rattle.shop_browse.specs.declared.driver.Next.{Next}
use Rattle.shop_browse.specs.Baskets.{country_read}
use Rattle.shop_browse.specs.Driver.{keys_of, IsNext}
use Rattle.shop_order.specs.declared.buy_request.Begun.{Begun}
use Rattle.shop_order.specs.declared.buy_request.Gathered.{Gathered}
use Rattle.shop_order.specs.BuyConfirm.{address_in}
use Rattle.shop_order.specs.ShoppingCart.{lines_in}
use Rattle.shop_order.specs.Stops.{AreBought}

-- the key that tells of a buyer: its user name, or its address
abbrev pub buyer_key : Buyer → Key
buyer_key (Returning asked) = key.Name asked.user
buyer_key (Newcomer asked) = key.SameAddress asked.address

-- the keys of the first round
abbrev pub first_keys : BuyRequest → List Key
first_keys asked = key.Cart asked.cart ∷ buyer_key asked.buyer ∷ []

-- the key of the customer who was found, where one returns
abbrev pub customer_keys : Buyer → Option ℕ → List Key
customer_keys (Newcomer asked) found = []
customer_keys (Returning asked) None = []
customer_keys (Returning asked) (Some id) = key.Customer id ∷ []

-- the keys of the second round: of the customer, and of the items of the lines
abbrev pub second_keys : Buyer → Option ℕ → List (ℕ × ℕ) → List Key
second_keys buyer found lines = customer_keys buyer found ++ map (λ l. key.Item l.0) lines

-- the id in a row; another row has none
abbrev pub id_in : Row → Option ℕ
id_in (rows.Id id) = Some id
id_in _ = None

-- why a buyer is refused, by the id that was found
abbrev pub check_found : Buyer → Option ℕ → Option Refusal
check_found (Newcomer asked) found = None
check_found (Returning asked) None = Some NoUserName
check_found (Returning asked) (Some id) = None

-- the row shows this id, or that there is none, and the buyer is not refused by it
pub record IsFound (buyer : Buyer) (row : Row) (found : Option ℕ) : Type 0 where
  pub row_is : row ≡ shown rows.Id found
  pub passes : check_found buyer found ≡ None

-- the row is of this customer, whose password this is
pub record IsCustomerIn (pass : List ℕ) (row : Row) (customer : CustomerRow) : Type 0 where
  pub row_is : row ≡ rows.Customer customer
  pub passes : check_password pass (Some customer) ≡ None

-- what the rows of the first round come to
pub record Begins (buyer : Buyer) (cart found : Row) (begun : Begun) : Type 0 where
  pub bought : AreBought cart begun.lines.now
  pub known : IsFound buyer found begun.found

-- the reads of the first round, and others behind them
pub record HasFirst (asked : BuyRequest) (reads : List ReadOf) : Type 0 where
  pub cart : ReadOf
  pub found : ReadOf
  pub more : List ReadOf
  pub reads_are : reads ≡ cart ∷ found ∷ more
  pub cart_is : cart.key ≡ key.Cart asked.cart
  pub found_is : found.key ≡ buyer_key asked.buyer

-- behind those of the first round come reads of the customer and of the items
pub record HasSecond (asked : BuyRequest) (reads : List ReadOf) : Type 0 where
  pub first : HasFirst asked reads
  pub more_are : keys_of first.more ≡ second_keys asked.buyer (id_in first.found.row) (lines_in first.cart.row)

-- the row of a customer who returns, behind those of the first round
abbrev pub customer_row : List ReadOf → Row
customer_row (cart ∷ found ∷ customer ∷ more) = customer.row
customer_row _ = rows.Absent

-- the key that tells where a buyer lives: the address of who returns, or the country that who is new gives
abbrev pub home_key : Buyer → Row → Key
home_key (Returning asked) customer = key.Address (address_in customer)
home_key (Newcomer asked) customer = key.Country asked.address.country

-- the reads of two rounds, and these behind them
pub record HasMost (asked : BuyRequest) (reads rest : List ReadOf) : Type 0 where
  pub before : List ReadOf
  pub second : HasSecond asked before
  pub reads_are : reads ≡ before ++ rest

-- behind those of two rounds comes that of where the buyer lives
pub record HasHome (asked : BuyRequest) (reads rest : List ReadOf) : Type 0 where
  pub home : ReadOf
  pub most : HasMost asked reads (home ∷ rest)
  pub home_is : home.key ≡ home_key asked.buyer (customer_row most.before)

-- and last, where one returns, that of the country of that address
pub record HasCountry (asked : BuyRequest) (reads : List ReadOf) : Type 0 where
  pub login : LoginAsked
  pub returns : asked.buyer ≡ Returning login
  pub country : ReadOf
  pub home : HasHome asked reads (country ∷ [])
  pub country_is : country.key ≡ key.Country (country_read None home.home.row)

-- the reads by the rounds
abbrev pub FollowsBuy : BuyRequest → ℕ → List ReadOf → Type 0
FollowsBuy asked zero reads = reads ≡ []
FollowsBuy asked (suc zero) reads = keys_of reads ≡ first_keys asked
FollowsBuy asked (suc (suc zero)) reads = HasSecond asked reads
FollowsBuy asked (suc (suc (suc zero))) reads = HasHome asked reads []
FollowsBuy asked (suc (suc (suc (suc more)))) reads = HasCountry asked reads

-- the first two reads come to this
abbrev pub BeginsBy : BuyRequest → Begun → List ReadOf → Type 0
BeginsBy asked begun (cart ∷ found ∷ more) = Begins asked.buyer cart.row found.row begun
BeginsBy asked begun _ = ⊥

-- what was gathered in two rounds or more
pub record IsGathered (asked : BuyRequest) (gathered : Gathered) : Type 0 where
  pub later : 2 ≤ gathered.round
  pub follows : FollowsBuy asked gathered.round gathered.reads.now
  pub begins : BeginsBy asked gathered.begun gathered.reads.now

-- what is done next is right, by what was gathered
abbrev pub IsRight : BuyRequest → Ask → Gathered → Draft → Next → Type 0
IsRight asked ask gathered draft next =
    IsNext (FollowsBuy asked) (buys.BuyRequest asked) ask gathered.round gathered.reads.now draft next
