use Rattle.std.proofs.Common.{◌≡◌, ◌++◌}
use Rattle.std.specs.Vec.Iter.{into_iter_items}
use Rattle.shop_search.specs.Filings.{AreReady, IsFiling}
use Rattle.shop_search.specs.Titles.{TitledItem}
use Rattle.shop_search.proofs.filing.file_all.Given as goal

abbrev pub invariant-loop-filing : goal.invariant-loop-filing
invariant-loop-filing l = record {
  all : l.yielded ++ into_iter_items l.filing-iterator ≡ l.fn.filings.items;
  filing : (item : TitledItem) → AreReady l.fn.lists item l.fn.filings.items → IsFiling l.fn.lists l.lists item l.yielded (into_iter_items l.filing-iterator);
}
