use Rattle.std.proofs.Common.{◌≡◌, ◌++◌}
use Rattle.std.specs.Prelude.{All}
use Rattle.std.specs.Vec.Iter.{into_iter_items}
use Rattle.shop_model.specs.declared.tables.Tables.{Tables}
use Rattle.shop_book.specs.RowsNow.{tables_with}
use Rattle.shop_book.specs.Watching.{AreOf, IsWatchable, keys_of}
use Rattle.shop_book.proofs.watching.watch.Given as goal

-- the keys that were taken are kept with what they show, and those that are left come behind them
abbrev pub invariant-loop-key : goal.invariant-loop-key
invariant-loop-key l = record {
  keys : keys_of l.watched.items ++ into_iter_items l.key-iterator ≡ into_iter_items l.initial.key-iterator;
  rows : (t : Tables) → AreOf (tables_with t l.rows) l.watched.items;
  kinds : All (λ w. IsWatchable w.key) l.watched.items;
  rest : All IsWatchable (into_iter_items l.key-iterator);
}
