use Rattle.std.proofs.Common.{◌≡◌, ◌++◌, length}
use Rattle.std.specs.Prelude.{All}
use Rattle.std.specs.Vec.Iter.{into_iter_items}
use Rattle.shop_model.specs.declared.tables.Tables.{Tables}
use Rattle.shop_history.proofs.cited.Versions.{RaisedFor}
use Rattle.shop_book.specs.RowsNow.{tables_with}
use Rattle.shop_book.specs.Stored.{stored, MorePlaces, HasSpare}
use Rattle.shop_book.specs.Watching.{AreOf, CanWatch, keys_of}
use Rattle.shop_book.proofs.watching.raise_changed.Given as goal

-- the keys that were taken are raised where they differ; those that are left can be
abbrev pub invariant-loop-kept : goal.invariant-loop-kept
invariant-loop-kept l = record {
  all : l.yielded ++ into_iter_items l.kept-iterator ≡ l.fn.watched.items;
  places : MorePlaces l.fn.versions l.versions;
  spare : HasSpare l.versions (length (into_iter_items l.kept-iterator));
  watchable : All (CanWatch l.fn.versions) (into_iter_items l.kept-iterator);
  left : (before : Tables) → AreOf before l.fn.watched.items → AreOf before (into_iter_items l.kept-iterator);
  raised : (before t : Tables) → AreOf before l.fn.watched.items → RaisedFor before (tables_with t l.rows) l.number (keys_of l.yielded) (stored l.fn.versions) (stored l.versions);
}
