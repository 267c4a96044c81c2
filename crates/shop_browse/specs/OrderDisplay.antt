-- What Order Display reads, from a user name on to the rows of its customer's last order.
use Rattle.std.specs.Prelude.{◌≡◌, ℕ, zero, suc, List, [], ◌∷◌, map, All, Some}
use Rattle.shop_model.specs.declared.address.Address.{Address}
use Rattle.shop_model.specs.declared.buying.OrderDisplay as asked_for
use Rattle.shop_model.specs.declared.requests.Request.TheVariants.{OrderDisplay}
use Rattle.shop_model.specs.declared.tables.Tables.{Tables}
use Rattle.shop_model.specs.asked.CustomersAsked.{LoginAsked}
use Rattle.shop_model.specs.lists.Catalogues.{Catalogue}
use Rattle.shop_model.specs.rows.Lookups.{city_of, country_of, country_name, title_of}
use Rattle.shop_model.specs.rows.Rows.{CustomerRow, LineRow, OrderRow}
use Rattle.shop_history.specs.declared.keys.Key.{Key}
use Rattle.shop_history.specs.declared.keys.Key.TheVariants as key
use Rattle.shop_history.specs.declared.keys.Row.{Row}
use Rattle.shop_history.specs.declared.keys.Row.TheVariants as row
use Rattle.shop_attempt.specs.declared.attempts.ReadOf.{ReadOf}
use Rattle.shop_draft.specs.declared.draft.Draft.{Draft}
use Rattle.shop_browse.specs.declared.attempted.Ask.{Ask}
use Rattle.shop_browse.specs.declared.driver.Next.{Next}
use Rattle.shop_browse.specs.Driver.{keys_of, IsNext}
use Rattle.shop_browse.specs.declared.names.Names.{Names}
use Rattle.shop_browse.specs.Names.{known_title, label_keys}

-- behind what holds of the reads, a key that showed a row, and the rest
pub record Then (before : List ReadOf → Type 0) (k : Key) (shown : Row) (rest : List ReadOf) : Type 0 where
  pub read : ReadOf
  pub has : before (read ∷ rest)
  pub key_is : read.key ≡ k
  pub row_is : read.row ≡ shown

-- behind what holds of the reads, that of a key, and the rest
pub record Comes (before : List ReadOf → Type 0) (k : Key) (rest : List ReadOf) : Type 0 where
  pub read : ReadOf
  pub has : before (read ∷ rest)
  pub key_is : read.key ≡ k

-- it ends them
abbrev pub Ends : (List ReadOf → Type 0) → Key → Type 0
Ends before k = Comes before k []

-- the reads begin with that of the user name of a customer
abbrev pub HasUser : List ℕ → ℕ → List ReadOf → List ReadOf → Type 0
HasUser user id reads rest = Then (λ all. reads ≡ all) (key.Name user) (row.Id id) rest

-- then comes that of the customer, who has the password
pub record HasLogin (asked : LoginAsked) (id : ℕ) (reads rest : List ReadOf) : Type 0 where
  pub customer : CustomerRow
  pub passes : asked.pass ≡ customer.password
  pub is : Then (HasUser asked.user id reads) (key.Customer id) (row.Customer customer) rest

-- then that of the id of its last order
pub record HasLast (asked : LoginAsked) (order : ℕ) (reads rest : List ReadOf) : Type 0 where
  pub id : ℕ
  pub is : Then (HasLogin asked id reads) (key.LastOrder id) (row.Id order) rest

-- then that of the order
pub record HasOrder (asked : LoginAsked) (order : OrderRow) (reads rest : List ReadOf) : Type 0 where
  pub id : ℕ
  pub is : Then (HasLast asked id reads) (key.Order id) (row.Order order) rest

-- then that of the address that it ships to
abbrev pub HasAddress : LoginAsked → OrderRow → Address → List ReadOf → List ReadOf → Type 0
HasAddress asked order address reads rest =
    Then (HasOrder asked order reads) (key.Address order.ship_address) (row.Address address) rest

-- the items of lines
abbrev pub items_of : List LineRow → List ℕ
items_of lines = map (λ l. l.item) lines

-- then that of the address's country, and the labels of the items that the catalogue doesn't have
pub record HasAll (asked : LoginAsked) (c : Catalogue) (reads : List ReadOf) : Type 0 where
  pub order : OrderRow
  pub address : Address
  pub labels : List ReadOf
  pub is : Comes (HasAddress asked order address reads) (key.Country address.text.country) labels
  pub labels_are : keys_of labels ≡ label_keys c (items_of order.lines)

-- after each round the reads reach one row further

abbrev pub ReachesName : LoginAsked → List ReadOf → Type 0
ReachesName asked reads = keys_of reads ≡ key.Name asked.user ∷ []

abbrev pub ReachesCustomer : LoginAsked → List ReadOf → Type 0
ReachesCustomer asked reads = (id : ℕ) × Ends (HasUser asked.user id reads) (key.Customer id)

abbrev pub ReachesLast : LoginAsked → List ReadOf → Type 0
ReachesLast asked reads = (id : ℕ) × Ends (HasLogin asked id reads) (key.LastOrder id)

abbrev pub ReachesOrder : LoginAsked → List ReadOf → Type 0
ReachesOrder asked reads = (order : ℕ) × Ends (HasLast asked order reads) (key.Order order)

abbrev pub ReachesAddress : LoginAsked → List ReadOf → Type 0
ReachesAddress asked reads = (order : OrderRow) × Ends (HasOrder asked order reads) (key.Address order.ship_address)

abbrev pub FollowsDisplay : asked_for.OrderDisplay → Catalogue → ℕ → List ReadOf → Type 0
FollowsDisplay asked c zero reads = reads ≡ []
FollowsDisplay asked c (suc zero) reads = ReachesName asked.login reads
FollowsDisplay asked c (suc (suc zero)) reads = ReachesCustomer asked.login reads
FollowsDisplay asked c (suc (suc (suc zero))) reads = ReachesLast asked.login reads
FollowsDisplay asked c (suc (suc (suc (suc zero)))) reads = ReachesOrder asked.login reads
FollowsDisplay asked c (suc (suc (suc (suc (suc zero))))) reads = ReachesAddress asked.login reads
FollowsDisplay asked c (suc (suc (suc (suc (suc (suc more)))))) reads = HasAll asked.login c reads

-- what is done next after so many rounds, in any ask of this catalogue, with the draft as it is then
abbrev pub DisplaysNext : Catalogue → asked_for.OrderDisplay → ℕ → List ReadOf → Draft → Next → Type 0
DisplaysNext c asked round reads draft next =
    (ask : Ask) → ask.index.now ≡ c → IsNext (FollowsDisplay asked c) (OrderDisplay asked) ask round reads draft next

-- the titles of the items of lines are known, as the tables have them
abbrev pub HaveItems : Tables → Names → List LineRow → Type 0
HaveItems t names lines = All (λ l. known_title names l.item ≡ Some (title_of t l.item)) lines

-- an address has this city, and is in the country with this name
pub record ShipsTo (t : Tables) (address : ℕ) (city country : List ℕ) : Type 0 where
  pub city_is : city_of t address ≡ city
  pub country_is : country_name t (country_of t address) ≡ country
