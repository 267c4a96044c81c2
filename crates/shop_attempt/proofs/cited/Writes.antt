-- What writes leave of the tables.
use Rattle.std.proofs.Common.{◌≡◌, ℕ, ◌+◌, ◌-◌, ◌≤◌, cond, true, false, eqb, List, [], ◌∷◌, ◌++◌, length, Option, Some, None, slice_set, refl, arith, length-append}
use Rattle.std.proofs.lemmas.List.{length-set}
use Rattle.shop_model.specs.declared.tables.Tables.{Tables}
use Rattle.shop_model.specs.rows.Limits.{day_of}
use Rattle.shop_model.specs.rows.Lookups.{row_numbered}
use Rattle.shop_model.specs.trade.Buyers.{changed_row, changed_at, logged_in}
use Rattle.shop_history.proofs.cited.KeptTables.{Grows}
use Rattle.shop_attempt.specs.declared.attempts.Write.{Write}
use Rattle.shop_attempt.specs.declared.attempts.Write.TheVariants.{PutCart, Login, AddAddress, AddCustomer, AddOrder, SetStock, PutItem}
use Rattle.shop_attempt.specs.Writes.{put_row, entered, placed, written_one, written}

-- rows that are changed stay as many, and those that are put are one more at most

pub changed_length : {Row : Type 0} (rows : List Row) (id : ℕ) (change : Row → Row) → length (changed_at rows id change) ≡ length rows
changed_length rows id change = of (row_numbered rows id)
  where
    of : (row : Option _) → length (changed_row rows id change row) ≡ length rows
    of None = refl
    of (Some row) = length-set rows (id - 1) (change row)

pub put_longer : {Row : Type 0} (rows : List Row) (id : ℕ) (make : ℕ → Row) → length rows ≤ length (put_row rows id make)
put_longer rows id make =
    elim (eqb id 0) as (λ b. length rows ≤ length (cond b (rows ++ make (length rows + 1) ∷ []) (slice_set rows (id - 1) (make id)))) [
      | true ↦ omega (arith, length-append rows (make (length rows + 1) ∷ []))
      | false ↦ omega (arith, length-set rows (id - 1) (make id))
    ]

-- tables only grow as writes are made

grows_self : (t : Tables) → Grows t t
grows_self t = grind arith

grows_then : (t u w : Tables) → Grows t u → Grows u w → Grows t w
grows_then t u w first second = grind arith

pub written_one_grows : (t : Tables) (stamp : ℕ) (write : Write) → Grows t (written_one t stamp write)
written_one_grows t stamp (PutCart cart) = grind (arith, put_longer t.carts cart.id (λ id. record cart { id = id }))
written_one_grows t stamp (Login id) = grind (arith, changed_length t.customers id (logged_in stamp))
written_one_grows t stamp (AddAddress text) = grind (arith, length-append t.addresses (record { id = length t.addresses + 1; text = text } ∷ []))
written_one_grows t stamp (AddCustomer customer) = grind (arith, length-append t.customers (entered t stamp customer ∷ []), length-append t.last (None ∷ []))
written_one_grows t stamp (AddOrder order days) =
    grind (arith, length-append t.orders (placed t stamp days order ∷ []), length-set t.last (order.customer - 1) (Some (length t.orders + 1)))
written_one_grows t stamp (SetStock stock) =
    grind (arith, changed_length t.items stock.item (λ item. record item { stock = stock.stock; restocks = stock.restocks }))
written_one_grows t stamp (PutItem item) = grind (arith, put_longer t.items item.id (λ id. record item { id = id; published = day_of stamp }))

pub written_grows : (t : Tables) (stamp : ℕ) (writes : List Write) → Grows t (written t stamp writes)
written_grows t stamp [] = grows_self t
written_grows t stamp (write ∷ writes) =
    grows_then t (written_one t stamp write) (written t stamp (write ∷ writes)) (written_one_grows t stamp write) (written_grows (written_one t stamp write) stamp writes)
