-- What was read of the customer whose number a request may give.
use Rattle.std.specs.Prelude.{◌≡◌, ℕ, zero, suc, List, [], ◌∷◌, Option, Some, None, option_copied}
use Rattle.shop_model.specs.declared.refusal.Refusal.TheVariants.{NoCustomer}
use Rattle.shop_model.specs.declared.tables.Tables.{Tables}
use Rattle.shop_model.specs.pages.Home.{customer_asked}
use Rattle.shop_model.specs.pages.Show.{check_customer}
use Rattle.shop_model.specs.rows.Rows.{CustomerRow}
use Rattle.shop_history.specs.declared.keys.Key.TheVariants.{Customer}
use Rattle.shop_attempt.specs.declared.attempts.ReadOf.{ReadOf}
use Rattle.shop_attempt.specs.Reads.{Shows}
use Rattle.shop_browse.specs.declared.known.Known.{Known}
use Rattle.shop_browse.specs.declared.known.Known.TheVariants.{Unread, Is, Missing, Never}
use Rattle.shop_browse.specs.Driver.{keys_of}

-- where a number is given, the customer was read after the first round
abbrev pub FollowsKnown : Option ℕ → ℕ → List ReadOf → Type 0
FollowsKnown None round reads = reads ≡ []
FollowsKnown (Some number) zero reads = reads ≡ []
FollowsKnown (Some number) (suc more) reads = keys_of reads ≡ Customer number ∷ []

-- tables that show what was read have this customer, or none is asked for
pub record IsThere (c : Option ℕ) (reads : List ReadOf) (customer : Option CustomerRow) (t : Tables) : Type 0 where
  pub passes : check_customer t c ≡ None
  pub row : customer_asked t c ≡ customer

-- what was read of the customer
abbrev pub IsKnown : Option ℕ → ℕ → List ReadOf → Known → Type 0
IsKnown c round reads (Unread number) = (c ≡ Some number) × (round ≡ 0) × (reads ≡ [])
IsKnown c round reads (Is customer) = (t : Tables) → Shows t reads → IsThere c reads (option_copied customer) t
IsKnown c round reads Missing = (t : Tables) → Shows t reads → check_customer t c ≡ Some NoCustomer
IsKnown c round reads Never = (t : Tables) → Shows t reads → ⊥
