-- When writes can be made: there is room, and the ids that they draw fit.
use Rattle.std.proofs.Common.{◌≡◌, ℕ, ◌-◌, ◌≤◌, List, [], ◌∷◌, ◌++◌, length, Some, refl, arith, length-append}
use Rattle.std.specs.Prelude.{All}
use Rattle.std.proofs.lemmas.List.{length-set}
use Rattle.shop_model.specs.declared.tables.Tables.{Tables}
use Rattle.shop_model.specs.rows.Limits.{stamp_limit}
use Rattle.shop_history.proofs.cited.KeptTables.{Grows}
use Rattle.shop_attempt.specs.declared.attempts.Write.{Write}
use Rattle.shop_attempt.specs.declared.attempts.Write.TheVariants as write
use Rattle.shop_attempt.specs.Writes.{written_one, written}
use Rattle.shop_attempt.proofs.cited.Writes.{written_one_grows, written_grows}
use Rattle.shop_book.specs.declared.puts.Put.{Put}
use Rattle.shop_book.specs.declared.puts.Put.TheVariants as put
use Rattle.shop_book.specs.declared.rows.Rows.{Rows}
use Rattle.shop_book.specs.Puts.{put_one, all_put, put_at, stamped, IsWhole}
use Rattle.shop_book.specs.Readiness.{IdsFit, AreReady}
use Rattle.shop_book.specs.RowsNow.{tables_with, HasRoom}

-- tables only grow

put_one_grows : (t : Tables) (stamp : ℕ) (p : Put) → Grows t (put_one t stamp p)
put_one_grows t stamp (put.Cart cart) = written_one_grows t stamp (write.PutCart cart)
put_one_grows t stamp (put.Login id) = written_one_grows t stamp (write.Login id)
put_one_grows t stamp (put.Address address text) = grind (arith, length-append t.addresses (address ∷ []))
put_one_grows t stamp (put.Customer customer) = written_one_grows t stamp (write.AddCustomer customer)
put_one_grows t stamp (put.Order order days) = grind (arith, length-append t.orders (order ∷ []), length-set t.last (order.customer - 1) (Some order.id))
put_one_grows t stamp (put.Stock stock) = written_one_grows t stamp (write.SetStock stock)
put_one_grows t stamp (put.Item item) = written_one_grows t stamp (write.PutItem item)

put_grows : (t : Tables) (stamp : ℕ) (puts : List Put) → Grows t (all_put t stamp puts)
put_grows t stamp [] = grind arith
put_grows t stamp (p ∷ puts) = grind (arith, put_one_grows t stamp p, put_grows (put_one t stamp p) stamp puts)

-- the ids of the first write fit where those of all do
pub first_fits : (t : Tables) (stamp : ℕ) (p : Put) (puts : List Put) → IdsFit (all_put t stamp (p ∷ puts)) → IdsFit (put_one t stamp p)
first_fits t stamp p puts fits = grind (arith, put_grows (put_one t stamp p) stamp puts)

pub first_written_fits : (t : Tables) (stamp : ℕ) (w : Write) (writes : List Write) → IdsFit (written t stamp (w ∷ writes)) → IdsFit (written_one t stamp w)
first_written_fits t stamp w writes fits = grind (arith, written_grows (written_one t stamp w) stamp writes)

-- writes can be made where there is room and the ids fit
pub are_ready : (t : Tables) (rows : Rows) (stamp : ℕ) (puts : List Put) → HasRoom rows (length puts) → All IsWhole puts → IdsFit (all_put (tables_with t rows) stamp puts) → stamp ≤ stamp_limit
    → AreReady rows stamp puts
are_ready t rows stamp puts room whole fits bound = record { room = room; whole = whole; tables = t; fits = fits; bound = bound }

-- room for all is room for the first
pub room_one : (rows : Rows) (rest : List Put) (p : Put) → HasRoom rows (length (p ∷ rest)) → HasRoom rows 1
room_one rows rest p room = grind arith

-- one more behind the others
pub put_more : (t : Tables) (stamp : ℕ) (puts : List Put) (p : Put) → put_at t stamp (puts ++ p ∷ []) ≡ put_one (put_at t stamp puts) stamp (stamped stamp p)
put_more t stamp [] p = refl
put_more t stamp (first ∷ puts) p = put_more (put_one t stamp (stamped stamp first)) stamp puts p
