use Rattle.std.proofs.Common.{◌≡◌, ◌++◌, length}
use Rattle.std.specs.Prelude.{All}
use Rattle.std.specs.Vec.Iter.{into_iter_items}
use Rattle.shop_book.specs.Changing.{RaisesAll}
use Rattle.shop_book.specs.Stored.{stored, HasPlace, MorePlaces, HasSpare}
use Rattle.shop_book.proofs.changes.raise_all.Given as goal

-- the keys that were taken are raised; those that are left can be
abbrev pub invariant-loop-key : goal.invariant-loop-key
invariant-loop-key l = record {
  all : l.yielded ++ into_iter_items l.key-iterator ≡ l.fn.keys.items;
  places : MorePlaces l.fn.versions l.versions;
  spare : HasSpare l.versions (length (into_iter_items l.key-iterator));
  left : All (HasPlace l.fn.versions) (into_iter_items l.key-iterator);
  raised : RaisesAll l.yielded l.number (stored l.fn.versions) (stored l.versions);
}
