use Rattle.std.proofs.Common.{◌≡◌, ℕ, ◌<◌, [], length, get_or}
use Rattle.shop_book.specs.Columns.{at}
use Rattle.shop_book.specs.Places.{sizes}
use Rattle.shop_book.proofs.versions.Versions.new.Given as goal

abbrev pub invariant-loop-size : goal.invariant-loop-size
invariant-loop-size l = record {
  sizes : l.size-items ≡ sizes l.rows;
  long : length l.columns.items ≡ l.size-index;
  each : (column : ℕ) → column < l.size-index → length (get_or l.columns.items column []) ≡ get_or l.size-items column 0;
  none : (column id : ℕ) → at (get_or l.columns.items column []) id ≡ 0;
}
