use Rattle.std.proofs.Common.{◌≡◌, length}
use Rattle.std.specs.Prelude.{All}
use Rattle.std.specs.Vec.Iter.{into_iter_items}
use Rattle.shop_model.specs.declared.tables.Tables.{Tables}
use Rattle.shop_book.specs.Puts.{all_put, IsWhole}
use Rattle.shop_book.specs.RowsNow.{tables_with, HasRoom}
use Rattle.shop_book.proofs.rows.Rows.put_all.Given as goal

abbrev pub invariant-loop-put : goal.invariant-loop-put
invariant-loop-put l = record {
  made : (t : Tables) → all_put (tables_with t l.self) l.stamp (into_iter_items l.put-iterator) ≡ all_put (tables_with t l.fn.self) l.stamp l.fn.puts.items;
  whole : All IsWhole (into_iter_items l.put-iterator);
  room : HasRoom l.self (length (into_iter_items l.put-iterator));
}
