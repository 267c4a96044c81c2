-- When writes can be made: there is room, and the ids that they draw fit.
use Rattle.std.specs.Prelude.{ℕ, ◌^◌, ◌<◌, ◌≤◌, List, length, All}
use Rattle.shop_model.specs.declared.tables.Tables.{Tables}
use Rattle.shop_model.specs.rows.Limits.{stamp_limit}
use Rattle.shop_attempt.specs.declared.attempts.Write.{Write}
use Rattle.shop_attempt.specs.Writes.{written_one, written}
use Rattle.shop_book.specs.declared.puts.Next.{Next}
use Rattle.shop_book.specs.declared.puts.Put.{Put}
use Rattle.shop_book.specs.declared.rows.Rows.{Rows}
use Rattle.shop_book.specs.Puts.{put_one, all_put, IsWhole, AreCounted}
use Rattle.shop_book.specs.RowsNow.{tables_with, HasRoom}

-- the ids of the rows that writes may add fit u32
pub record IdsFit (t : Tables) : Type 0 where
  pub items : length t.items < 2 ^ 32
  pub customers : length t.customers < 2 ^ 32
  pub carts : length t.carts < 2 ^ 32
  pub addresses : length t.addresses < 2 ^ 32
  pub orders : length t.orders < 2 ^ 32

-- a write that fits some tables with so many rows, and the stamp
pub record IsFit (next : Next) (stamp : ℕ) (write : Write) : Type 0 where
  pub tables : Tables
  pub counted : AreCounted tables next
  pub fits : IdsFit (written_one tables stamp write)
  pub bound : stamp ≤ stamp_limit

-- writes that fit some tables with these rows, one after another
pub record AreFit (rows : Rows) (stamp : ℕ) (writes : List Write) : Type 0 where
  pub tables : Tables
  pub fits : IdsFit (written (tables_with tables rows) stamp writes)
  pub bound : stamp ≤ stamp_limit

-- a prepared write that can be made in some tables with these rows: there is room, its ids fit, and so does the stamp
pub record IsReady (rows : Rows) (stamp : ℕ) (put : Put) : Type 0 where
  pub room : HasRoom rows 1
  pub whole : IsWhole put
  pub tables : Tables
  pub fits : IdsFit (put_one (tables_with tables rows) stamp put)
  pub bound : stamp ≤ stamp_limit

-- prepared writes that can be made, one after another
pub record AreReady (rows : Rows) (stamp : ℕ) (puts : List Put) : Type 0 where
  pub room : HasRoom rows (length puts)
  pub whole : All IsWhole puts
  pub tables : Tables
  pub fits : IdsFit (all_put (tables_with tables rows) stamp puts)
  pub bound : stamp ≤ stamp_limit
