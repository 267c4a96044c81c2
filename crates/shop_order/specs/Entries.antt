-- The writes by which a new customer is entered.
use Rattle.std.specs.Prelude.{ℕ, ◌%◌, List, [], ◌∷◌, ◌++◌, Option, Some, None, unwrap_or}
use Rattle.shop_text.specs.Texts.{digsyl, digsyl_lower}
use Rattle.shop_model.specs.declared.address.AddressText.{AddressText}
use Rattle.shop_model.specs.declared.customer.CustomerDetails.{CustomerDetails}
use Rattle.shop_model.specs.asked.CustomersAsked.{NewcomerAsked}
use Rattle.shop_model.specs.rows.Rows.{CustomerRow}
use Rattle.shop_attempt.specs.declared.attempts.Write.{Write}
use Rattle.shop_attempt.specs.declared.attempts.Write.TheVariants.{AddAddress, AddCustomer}

-- what is kept of who is new, with the discount that a word draws
abbrev pub details_of : ℕ → NewcomerAsked → CustomerDetails
details_of draw asked = record {
  first = asked.first;
  last = asked.last;
  discount = draw % 51;
  phone = asked.phone;
  email = asked.email;
}

-- who is new, before the settle: at the address with an id, or at none yet
abbrev pub newcomer_row : ℕ → NewcomerAsked → Option ℕ → CustomerRow
newcomer_row draw asked address = record {
  id = 0;
  user = digsyl 0;
  password = digsyl_lower 0;
  first = asked.first;
  last = asked.last;
  address = unwrap_or address 0;
  discount = draw % 51;
  phone = asked.phone;
  email = asked.email;
  login = 0;
  expiry = 0;
}

-- the address comes first, where there is none that says the same
abbrev pub address_writes : AddressText → Option ℕ → List Write
address_writes text None = AddAddress text ∷ []
address_writes text (Some id) = []

abbrev pub newcomer_writes : ℕ → NewcomerAsked → Option ℕ → List Write
newcomer_writes draw asked address =
    address_writes asked.address address ++ AddCustomer (newcomer_row draw asked address) ∷ []
