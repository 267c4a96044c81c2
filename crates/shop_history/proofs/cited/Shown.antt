-- Rows that are shown are there.
use Rattle.std.proofs.Common.{◌≡◌, ℕ, Option, Some, None, refl}
use Rattle.shop_model.specs.declared.address.Address.{Address}
use Rattle.shop_model.specs.rows.Rows.{CartRow, CountryRow, CustomerRow, ItemRow}
use Rattle.shop_history.specs.declared.keys.Row.TheVariants as row
use Rattle.shop_history.specs.Keys.{shown}

pub cart_found : (o : Option CartRow) (cart : CartRow) → shown row.Cart o ≡ row.Cart cart → o ≡ Some cart
cart_found None cart is = absurd cc
cart_found (Some other) cart is = cc

pub customer_found : (o : Option CustomerRow) (customer : CustomerRow) → shown row.Customer o ≡ row.Customer customer → o ≡ Some customer
customer_found None customer is = absurd cc
customer_found (Some other) customer is = cc

pub item_found : (o : Option ItemRow) (item : ItemRow) → shown row.Item o ≡ row.Item item → o ≡ Some item
item_found None item is = absurd cc
item_found (Some other) item is = cc

pub address_found : (o : Option Address) (address : Address) → shown row.Address o ≡ row.Address address → o ≡ Some address
address_found None address is = absurd cc
address_found (Some other) address is = cc

pub country_found : (o : Option CountryRow) (country : CountryRow) → shown row.Country o ≡ row.Country country → o ≡ Some country
country_found None country is = absurd cc
country_found (Some other) country is = cc

pub id_found : (o found : Option ℕ) → shown row.Id o ≡ shown row.Id found → o ≡ found
id_found None None is = refl
id_found None (Some id) is = absurd cc
id_found (Some other) None is = absurd cc
id_found (Some other) (Some id) is = cc
