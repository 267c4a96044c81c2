-- The writes by which a customer logs in or is entered make what the act does.
use Rattle.std.proofs.Common.{◌≡◌, ℕ, ◌+◌, List, [], ◌∷◌, ◌++◌, length, Option, Some, None, option_map, refl, sym, ap, arith, length-append}
use Rattle.std.proofs.lemmas.Bool.{cond-false, ne_eqb}
use Rattle.shop_model.specs.declared.address.Address.{Address}
use Rattle.shop_model.specs.declared.buying.Buyer.TheVariants.{Returning, Newcomer}
use Rattle.shop_model.specs.declared.tables.Tables.{Tables}
use Rattle.shop_model.specs.asked.CustomersAsked.{LoginAsked, NewcomerAsked}
use Rattle.shop_model.specs.rows.Lookups.{row_numbered}
use Rattle.shop_model.specs.rows.Rows.{CustomerRow}
use Rattle.shop_model.specs.rows.Sound.{Sound, Has}
use Rattle.shop_model.specs.trade.Buyers.{customer_named, address_saying, addresses_with, address_id, new_customer, customers_with, tables_entered}
use Rattle.shop_history.proofs.cited.Found.{found_numbered, found_has}
use Rattle.shop_attempt.specs.declared.attempts.Write.TheVariants.{Login}
use Rattle.shop_attempt.specs.Writes.{written, or_last}
use Rattle.shop_order.specs.Entries.{newcomer_writes}

-- the customer of a user name
pub user_numbered : (t : Tables) (user : List ℕ) (customer : CustomerRow) → Sound t → customer_named t user ≡ Some customer → row_numbered t.customers customer.id ≡ Some customer
user_numbered t user customer sound is = found_numbered _ (λ (c : CustomerRow). c.id) t.customers customer sound.ids.customers is

-- a customer logs in

pub login_written : (t : Tables) (stamp draw : ℕ) (asked : LoginAsked) (customer : CustomerRow) → customer_named t asked.user ≡ Some customer
    → written t stamp (Login customer.id ∷ []) ≡ tables_entered t stamp draw (Returning asked)
login_written t stamp draw asked customer is =
    ap (λ (customers : List CustomerRow). record t { customers = customers }) (ap (customers_with t.customers stamp) (sym is))

-- who is new is entered

-- the tables after, where the newcomer has this address
abbrev entered_at : Tables → ℕ → ℕ → NewcomerAsked → ℕ → List Address → Tables
entered_at t stamp draw asked address addresses = record t {
  addresses = addresses;
  customers = t.customers ++ record (new_customer t stamp draw asked) { address = address } ∷ [];
  last = t.last ++ None ∷ [];
}

newcomer_by : (t : Tables) (stamp draw : ℕ) (asked : NewcomerAsked) (same : Option Address) → Sound t → address_saying t asked.address ≡ same
    → written t stamp (newcomer_writes draw asked (option_map (λ a. a.id) same)) ≡ entered_at t stamp draw asked (address_id t.addresses same) (addresses_with t.addresses asked.address same)
newcomer_by t stamp draw asked None sound is =
    let addresses : List Address = addresses_with t.addresses asked.address None in
    let next : length addresses ≡ length t.addresses + 1 = length-append t.addresses (record { id = length t.addresses + 1; text = asked.address } ∷ []) in
    ap (λ n. entered_at t stamp draw asked n addresses) next
newcomer_by t stamp draw asked (Some same) sound is =
    let has : Has (length t.addresses) same.id = found_has _ (λ (a : Address). a.id) t.addresses same sound.ids.addresses is in
    let id : or_last same.id (length t.addresses) ≡ same.id = cond-false _ _ _ (ne_eqb same.id 0 (λ e. omega (arith, e, has.first))) in
    ap (λ n. entered_at t stamp draw asked n t.addresses) id

pub newcomer_written : (t : Tables) (stamp draw : ℕ) (asked : NewcomerAsked) → Sound t
    → written t stamp (newcomer_writes draw asked (option_map (λ a. a.id) (address_saying t asked.address))) ≡ tables_entered t stamp draw (Newcomer asked)
newcomer_written t stamp draw asked sound = newcomer_by t stamp draw asked (address_saying t asked.address) sound refl
