-- Customers by their user names, and their passwords.
use Rattle.std.proofs.Common.{◌≡◌, ℕ, List, Option, Some, None, option_map, refl, sym, ◌∙◌, ap}
use Rattle.std.specs.Str.{bytes_eq}
use Rattle.std.proofs.lemmas.Bool.{cond-true, cond-false, false_from_ne_true}
use Rattle.std.proofs.lemmas.Slice.Eq.{bytes_eq-Decides}
use Rattle.shop_model.specs.declared.refusal.Refusal.TheVariants.{WrongPassword}
use Rattle.shop_model.specs.declared.tables.Tables.{Tables}
use Rattle.shop_model.specs.rows.Lookups.{row_numbered}
use Rattle.shop_model.specs.rows.Rows.{CustomerRow}
use Rattle.shop_model.specs.rows.Sound.{Sound}
use Rattle.shop_model.specs.trade.Buyers.{customer_named, check_password}
use Rattle.shop_history.specs.declared.keys.Key.TheVariants as key
use Rattle.shop_history.specs.declared.keys.Row.TheVariants as row
use Rattle.shop_history.specs.Keys.{row_of, shown}
use Rattle.shop_history.proofs.cited.Found.{found_numbered}

-- the customer with a user name stands at the place of its id
module _ (t : Tables) (sound : Sound t) (user : List ℕ) where
  same_id : (o : Option CustomerRow) (id : ℕ) → shown row.Id (option_map (λ c. c.id) o) ≡ row.Id id → (c : CustomerRow) × (o ≡ Some c) × (c.id ≡ id)
  same_id None id is = absurd cc
  same_id (Some c) id is = (c, refl, cc)

  pub customer_of_name : (id : ℕ) → row_of t (key.Name user) ≡ row.Id id → (c : CustomerRow) × (customer_named t user ≡ Some c) × (row_numbered t.customers id ≡ Some c) × (c.id ≡ id)
  customer_of_name id shows =
      let found = same_id (customer_named t user) id shows in
      let c : CustomerRow = found.0 in
      let numbered = found_numbered (λ (c : CustomerRow). bytes_eq c.user user) (λ (c : CustomerRow). c.id) t.customers c sound.ids.customers found.1 in
      (c, found.1, ap (row_numbered t.customers) (sym found.2) ∙ numbered, found.2)

-- no one has a name that no id is shown for
pub no_name : (o : Option CustomerRow) → shown row.Id (option_map (λ c. c.id) o) ≡ row.Absent → o ≡ None
no_name None is = refl
no_name (Some c) is = absurd cc

-- the check of the password of a customer
pub password_passes : (pass : List ℕ) (c : CustomerRow) → pass ≡ c.password → check_password pass (Some c) ≡ None
password_passes pass c same = cond-true _ _ _ ((bytes_eq-Decides c.password pass).1 (sym same))

pub password_fails : (pass : List ℕ) (c : CustomerRow) → (pass ≡ c.password → ⊥) → check_password pass (Some c) ≡ Some WrongPassword
password_fails pass c other = cond-false _ _ _ (false_from_ne_true (bytes_eq c.password pass) (λ same. other (sym ((bytes_eq-Decides c.password pass).0 same))))
