-- Who buys, and what a customer who logs in or is entered makes of the tables; this project's own after the TPC-W
-- specification's Buy Request.
use Rattle.std.specs.Prelude.{ℕ, ◌+◌, ◌-◌, ◌%◌, ◌==◌, ◌&&◌, Bool, List, [], ◌∷◌, ◌++◌, length, slice_set, Option, Some, None, option_map, if◌then◌else◌}
use Rattle.std.specs.List.{find}
use Rattle.std.specs.Str.{bytes_eq}
use Rattle.shop_text.specs.Texts.{digsyl, digsyl_lower}
use Rattle.shop_model.specs.declared.address.Address.{Address}
use Rattle.shop_model.specs.declared.address.AddressText.{AddressText}
use Rattle.shop_model.specs.declared.buying.Buyer.{Buyer}
use Rattle.shop_model.specs.declared.buying.Buyer.TheVariants.{Returning, Newcomer}
use Rattle.shop_model.specs.declared.refusal.Refusal.{Refusal}
use Rattle.shop_model.specs.declared.refusal.Refusal.TheVariants.{NoCart, EmptyCart, NoUserName, WrongPassword}
use Rattle.shop_model.specs.declared.tables.Tables.{Tables}
use Rattle.shop_model.specs.asked.CustomersAsked.{LoginAsked, NewcomerAsked}
use Rattle.shop_model.specs.rows.Limits.{session_time}
use Rattle.shop_model.specs.rows.Lookups.{row_numbered, country_of}
use Rattle.shop_model.specs.rows.Rows.{CartRow, CustomerRow}
use Rattle.shop_model.specs.trade.Carts.{first_of}

-- the customer with a user name
abbrev pub customer_named : Tables → List ℕ → Option CustomerRow
customer_named t user = find (λ c. bytes_eq c.user user) t.customers

-- two addresses say the same
abbrev pub says_same : AddressText → AddressText → Bool
says_same a b =
    bytes_eq a.street1 b.street1 && bytes_eq a.street2 b.street2 && bytes_eq a.city b.city && bytes_eq a.state b.state
    && bytes_eq a.zip b.zip && (a.country == b.country)

-- the address that says this; where there are several, the one of the smallest id
abbrev pub address_saying : Tables → AddressText → Option Address
address_saying t text = find (λ a. says_same a.text text) t.addresses

-- why a password is refused, for a customer or where there is none
abbrev pub check_password : List ℕ → Option CustomerRow → Option Refusal
check_password pass None = Some NoUserName
check_password pass (Some customer) = if bytes_eq customer.password pass then None else Some WrongPassword

-- why a login is refused
abbrev pub check_login : Tables → LoginAsked → Option Refusal
check_login t asked = check_password asked.pass (customer_named t asked.user)

-- why a cart can't be bought: it is not there, or has no lines
abbrev pub check_bought : Option CartRow → Option Refusal
check_bought None = Some NoCart
check_bought (Some cart) = if length cart.lines == 0 then Some EmptyCart else None

-- why a buyer is refused; who is new is not
abbrev pub check_buyer : Tables → Buyer → Option Refusal
check_buyer t (Returning asked) = check_login t asked
check_buyer t (Newcomer asked) = None

-- why buying a cart is refused: the cart is looked at first
abbrev pub check_enter : Tables → ℕ → Buyer → Option Refusal
check_enter t cart buyer = first_of (check_bought (row_numbered t.carts cart)) (check_buyer t buyer)

-- a row in its place, changed; where there is none, nothing
abbrev pub changed_row : {Row : Type 0} → List Row → ℕ → (Row → Row) → Option Row → List Row
changed_row rows id change None = rows
changed_row rows id change (Some row) = slice_set rows (id - 1) (change row)

-- the row with an id, changed
abbrev pub changed_at : {Row : Type 0} → List Row → ℕ → (Row → Row) → List Row
changed_at rows id change = changed_row rows id change (row_numbered rows id)

-- a customer who logs in at a stamp
abbrev pub logged_in : ℕ → CustomerRow → CustomerRow
logged_in stamp customer = record customer { login = stamp; expiry = stamp + session_time }

-- the addresses with this one, which is new where none says the same
abbrev pub addresses_with : List Address → AddressText → Option Address → List Address
addresses_with addresses text None = addresses ++ record { id = length addresses + 1; text = text } ∷ []
addresses_with addresses text (Some same) = addresses

-- its id
abbrev pub address_id : List Address → Option Address → ℕ
address_id addresses None = length addresses + 1
address_id addresses (Some same) = same.id

-- a new customer: the next id, the names that go with it, a drawn discount, and logged in
abbrev pub new_customer : Tables → ℕ → ℕ → NewcomerAsked → CustomerRow
new_customer t stamp draw asked = record {
  id = length t.customers + 1;
  user = digsyl (length t.customers + 1);
  password = digsyl_lower (length t.customers + 1);
  first = asked.first;
  last = asked.last;
  address = address_id t.addresses (address_saying t asked.address);
  discount = draw % 51;
  phone = asked.phone;
  email = asked.email;
  login = stamp;
  expiry = stamp + session_time;
}

-- the customer who buys, as it is then; none where no one has the name
abbrev pub buyer_row : Tables → ℕ → ℕ → Buyer → Option CustomerRow
buyer_row t stamp draw (Returning asked) = option_map (logged_in stamp) (customer_named t asked.user)
buyer_row t stamp draw (Newcomer asked) = Some (new_customer t stamp draw asked)

-- the country in which the customer who buys lives
abbrev pub buyer_country : Tables → Buyer → CustomerRow → ℕ
buyer_country t (Returning asked) customer = country_of t customer.address
buyer_country t (Newcomer asked) customer = asked.address.country

-- the customers where this one logs in
abbrev pub customers_with : List CustomerRow → ℕ → Option CustomerRow → List CustomerRow
customers_with customers stamp None = customers
customers_with customers stamp (Some customer) = changed_at customers customer.id (logged_in stamp)

-- the tables after a known customer logged in or a new one was entered
abbrev pub tables_entered : Tables → ℕ → ℕ → Buyer → Tables
tables_entered t stamp draw (Returning asked) =
    record t { customers = customers_with t.customers stamp (customer_named t asked.user) }
tables_entered t stamp draw (Newcomer asked) = record t {
  addresses = addresses_with t.addresses asked.address (address_saying t asked.address);
  customers = t.customers ++ new_customer t stamp draw asked ∷ [];
  last = t.last ++ None ∷ [];
}
