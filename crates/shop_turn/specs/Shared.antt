-- What a call of a share reads in the book.
use Rattle.std.specs.Prelude.{◌≡◌, ℕ}
use Rattle.shop_history.specs.declared.keys.Key.{Key}
use Rattle.shop_history.specs.declared.keys.Row.{Row}
use Rattle.shop_history.specs.Keys.{row_of}
use Rattle.shop_history.specs.Logs.{version_of}
use Rattle.shop_book.specs.Books.{BookValue, tables_of}

-- what a key shows in a book, and its version
pub record IsReadIn (book : BookValue) (key : Key) (read : Row × ℕ) : Type 0 where
  pub row : read.0 ≡ row_of (tables_of book) key
  pub version : read.1 ≡ version_of book.opening.tables book.log key

-- the book at this latest stamp
abbrev pub at_stamp : ℕ → BookValue → BookValue
at_stamp latest book = record book { latest = latest }
