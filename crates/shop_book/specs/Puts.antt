-- Writes that take no more memory, and what they make of the tables.
use Rattle.std.specs.Prelude.{◌≡◌, ℕ, ◌+◌, ◌-◌, min, List, [], ◌∷◌, ◌++◌, length, map, Some, slice_set}
use Rattle.shop_model.specs.declared.tables.Tables.{Tables}
use Rattle.shop_model.specs.rows.Limits.{day_of, day_limit}
use Rattle.shop_model.specs.rows.Rows.{OrderRow}
use Rattle.shop_attempt.specs.declared.attempts.Write.{Write}
use Rattle.shop_attempt.specs.declared.attempts.Write.TheVariants as write
use Rattle.shop_attempt.specs.Writes.{written_one, written}
use Rattle.shop_book.specs.declared.puts.Next.{Next}
use Rattle.shop_book.specs.declared.puts.Put.{Put}
use Rattle.shop_book.specs.declared.puts.Put.TheVariants as put
use Rattle.shop_book.specs.declared.rows.Rows.{Rows}
use Rattle.shop_book.specs.RowsNow.{tables_with}

-- the tables after one; what is new comes as it is made
abbrev pub put_one : Tables → ℕ → Put → Tables
put_one t stamp (put.Cart cart) = written_one t stamp (write.PutCart cart)
put_one t stamp (put.Login id) = written_one t stamp (write.Login id)
put_one t stamp (put.Address address text) = record t { addresses = t.addresses ++ address ∷ [] }
put_one t stamp (put.Customer customer) = written_one t stamp (write.AddCustomer customer)
put_one t stamp (put.Order order days) = record t {
  orders = t.orders ++ order ∷ [];
  last = slice_set t.last (order.customer - 1) (Some order.id);
}
put_one t stamp (put.Stock stock) = written_one t stamp (write.SetStock stock)
put_one t stamp (put.Item item) = written_one t stamp (write.PutItem item)

-- the tables after some, one after another
abbrev pub all_put : Tables → ℕ → List Put → Tables
all_put t stamp [] = t
all_put t stamp (put ∷ puts) = all_put (put_one t stamp put) stamp puts

-- an order placed at a stamp, and shipped so many days later
abbrev pub order_stamped : ℕ → ℕ → OrderRow → OrderRow
order_stamped stamp days order = record order {
  placed = stamp;
  ship_day = min (day_of stamp + days) day_limit;
  card = record order.card { stamp = stamp };
}

-- a write as it is at another stamp
abbrev pub stamped : ℕ → Put → Put
stamped stamp (put.Order order days) = put.Order (order_stamped stamp days order) days
stamped stamp p = p

-- it is already as it is at this stamp
abbrev pub IsStamped : ℕ → Put → Type 0
IsStamped stamp put = stamped stamp put ≡ put

-- the tables after some, each as it is at the stamp
abbrev pub put_at : Tables → ℕ → List Put → Tables
put_at t stamp puts = all_put t stamp (map (stamped stamp) puts)

-- an address comes with the text that it says
abbrev pub IsWhole : Put → Type 0
IsWhole (put.Address address text) = address.text ≡ text
IsWhole _ = Unit {0}

-- so many rows are there
pub record AreCounted (t : Tables) (next : Next) : Type 0 where
  pub addresses : length t.addresses ≡ next.addresses
  pub orders : length t.orders ≡ next.orders

-- at each stamp it makes of tables with so many rows what the write makes
abbrev pub IsPutOf : Next → Write → Put → Type 0
IsPutOf next write p = (t : Tables) (at : ℕ) → AreCounted t next → put_one t at (stamped at p) ≡ written_one t at write

-- these do of tables with these rows
abbrev pub ArePutsOf : Rows → List Write → List Put → Type 0
ArePutsOf rows writes puts = (t : Tables) (at : ℕ) → put_at (tables_with t rows) at puts ≡ written (tables_with t rows) at writes
