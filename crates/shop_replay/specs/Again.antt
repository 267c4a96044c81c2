-- A replay of the log of a book gives a book that shows the same.
use Rattle.std.specs.Prelude.{◌≡◌}
use Rattle.shop_history.specs.declared.keys.Key.{Key}
use Rattle.shop_history.specs.Keys.{row_of}
use Rattle.shop_history.specs.Logs.{version_of}
use Rattle.shop_book.specs.Books.{BookValue, tables_of}
use Rattle.shop_book.specs.Summaries.{summary_of}
use Rattle.shop_replay.specs.declared.replaying.Replayed.{Replayed}
use Rattle.shop_replay.specs.declared.replaying.Replayed.TheVariants as replayed

-- the two have the same opening and log, and so each row, each version and the summary are the same
pub record ShowSame (one other : BookValue) : Type 0 where
  pub opening : other.opening ≡ one.opening
  pub log : other.log ≡ one.log
  pub rows : (key : Key) → row_of (tables_of other) key ≡ row_of (tables_of one) key
  pub versions : (key : Key) → version_of other.opening.tables other.log key ≡ version_of one.opening.tables one.log key
  pub summary : summary_of other ≡ summary_of one

-- no entry is illegal
abbrev pub GivesAgain : BookValue → Replayed → Type 0
GivesAgain b (replayed.Book book) = ShowSame b book
GivesAgain b (replayed.Illegal number) = ⊥
GivesAgain b replayed.Memory = Unit {0}
