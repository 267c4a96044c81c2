-- What pages say of customers.
use Rattle.std.specs.Prelude.{◌≡◌, ℕ, List}
use Rattle.shop_model.specs.rows.Rows.{CustomerRow}

-- a customer has both names
pub record HasNames (customer : CustomerRow) (first last : List ℕ) : Type 0 where
  pub first_is : customer.first ≡ first
  pub last_is : customer.last ≡ last

-- a customer has a user name, both names, and a discount
pub record IsBuyer (customer : CustomerRow) (user first last : List ℕ) (discount : ℕ) : Type 0 where
  pub user_is : customer.user ≡ user
  pub named : HasNames customer first last
  pub discount_is : customer.discount ≡ discount
