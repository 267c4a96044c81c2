-- The orders of a window, each chained to the one before it of its customer.
use Rattle.std.specs.Prelude.{◌≡◌, ◌≢◌, ℕ, suc, ◌+◌, ◌-◌, ◌%◌, ◌^◌, ◌<◌, ◌≤◌, List, [], length, get_or, IfSome}
use Rattle.std.specs.declared.option.Option.{Option}
use Rattle.std.specs.declared.option.Option.TheVariants.{None, Some}
use Rattle.shop_model.specs.lists.Related.{Sold}

-- an order, and how many orders before it the one before it of its customer stands
pub record Entry : Type 0 where
  pub sold : Sold
  pub back : ℕ

abbrev pub no_entry : Entry
no_entry = record { sold = record { id = 0; customer = 0; lines = [] }; back = 0 }

abbrev pub customer_at : List Entry → ℕ → ℕ
customer_at entries i = (get_or entries i no_entry).sold.customer

-- none of the orders from one place to before another is the customer's
abbrev pub NoneIn : List Entry → ℕ → ℕ → ℕ → Type 0
NoneIn entries customer start end = (j : ℕ) → start ≤ j → j < end → customer_at entries j ≢ customer

-- the order at a place leads back to the one before it of its customer, or out of the window where there is none
pub record IsLinked (entries : List Entry) (i : ℕ) : Type 0 where
  pub some : 1 ≤ (get_or entries i no_entry).back
  pub same : (get_or entries i no_entry).back ≤ i → customer_at entries (i - (get_or entries i no_entry).back) ≡ customer_at entries i
  pub none : NoneIn entries (customer_at entries i) (suc i - (get_or entries i no_entry).back) i

abbrev pub AreLinked : List Entry → Type 0
AreLinked entries = (i : ℕ) → i < length entries → IsLinked entries i

-- so many orders are left with the customer's newest one the last of them; none where it has no order
pub record IsNewest (entries : List Entry) (customer left : ℕ) : Type 0 where
  pub within : left ≤ length entries
  pub same : 0 < left → customer_at entries (left - 1) ≡ customer
  pub none : NoneIn entries customer left (length entries)

-- numbers of orders run on from one window to the next, and wrap
abbrev pub left_from : ℕ → ℕ → ℕ
left_from gone number = (number + (2 ^ 64 - gone)) % 2 ^ 64

abbrev pub left_of : ℕ → Option ℕ → ℕ
left_of gone None = 0
left_of gone (Some number) = left_from gone number

-- each customer's newest order is known by its number, where so many orders are gone
pub record IsChain (entries : List Entry) (numbers : ℕ → Option ℕ) (gone : ℕ) : Type 0 where
  pub linked : AreLinked entries
  pub newest : (customer : ℕ) → IsNewest entries customer (left_of gone (numbers customer))
  pub listed : (customer : ℕ) → IfSome (numbers customer) (λ number. 0 < left_from gone number)

-- what contracts see of a chain: its orders, for how many it has room, and how many customers more it can take
pub record ChainValue : Type 0 where
  pub kept : List Sold
  pub capacity : ℕ
  pub spare : ℕ
