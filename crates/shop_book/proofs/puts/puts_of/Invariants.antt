use Rattle.std.proofs.Common.{◌≡◌, ℕ}
use Rattle.std.specs.Prelude.{All}
use Rattle.std.specs.Vec.Iter.{into_iter_items}
use Rattle.shop_model.specs.declared.tables.Tables.{Tables}
use Rattle.shop_attempt.specs.Writes.{written}
use Rattle.shop_book.specs.Puts.{put_at, IsStamped, IsWhole, AreCounted}
use Rattle.shop_book.specs.RowsNow.{tables_with}
use Rattle.shop_book.proofs.puts.puts_of.Given as goal

-- the writes that are left make of what was made so far what all make of the rows
abbrev pub invariant-loop-write : goal.invariant-loop-write
invariant-loop-write l = record {
  made : (t : Tables) → (at : ℕ) → written (put_at (tables_with t l.rows) at l.puts.items) at (into_iter_items l.write-iterator) ≡ written (tables_with t l.rows) at l.fn.writes.items;
  counted : (t : Tables) → (at : ℕ) → AreCounted (put_at (tables_with t l.rows) at l.puts.items) l.next;
  stamped : All (IsStamped l.stamp) l.puts.items;
  whole : All IsWhole l.puts.items;
}
