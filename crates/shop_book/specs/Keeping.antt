-- What a book keeps of its log, so that it never goes through it.
use Rattle.std.specs.Prelude.{◌≡◌, ℕ, length}
use Rattle.shop_history.specs.declared.keys.Key.{Key}
use Rattle.shop_history.specs.Logs.{version_of, entries_of}
use Rattle.shop_book.specs.declared.counts.Counts.{Counts}
use Rattle.shop_book.specs.declared.lists.Lists.{Lists}
use Rattle.shop_book.specs.declared.rows.Rows.{Rows}
use Rattle.shop_book.specs.declared.versions.Versions.{Versions}
use Rattle.shop_book.specs.Additions.{AreAdded}
use Rattle.shop_book.specs.Books.{BookValue, IsBook, tables_of}
use Rattle.shop_book.specs.Counted.{count_in}
use Rattle.shop_book.specs.KeptLists.{AreLists}
use Rattle.shop_book.specs.RowsNow.{tables_with}
use Rattle.shop_book.specs.Stored.{stored, HasPlaces}
use Rattle.shop_book.specs.Summaries.{cents_in}

-- the rows are those of the tables now, each with a place for its version, the versions and the counts are those of the log, and
-- the added items, the lists and what orders were charged are those of the tables now
pub record IsKept (b : BookValue) (rows : Rows) (versions : Versions) (counts : Counts) (lists : Lists) (cents : ℕ) : Type 0 where
  pub is_book : IsBook b
  pub rows_are : tables_with b.opening.tables rows ≡ tables_of b
  pub places : HasPlaces versions rows
  pub versions_are : (key : Key) → stored versions key ≡ version_of b.opening.tables b.log key
  pub added_are : AreAdded (tables_of b) versions.added
  pub counts_are : (caller : ℕ) → count_in counts caller ≡ length (entries_of caller b.log)
  pub lists_are : AreLists (tables_of b) lists
  pub cents_are : cents ≡ cents_in (tables_of b)
