-- Laws of the versions and of the tables of a book.
use Rattle.std.specs.Prelude.{ℕ, ◌+◌, ◌-◌, ◌≤◌, List, length, take}
use Rattle.shop_log.specs.Histories.{IsStill}
use Rattle.shop_model.specs.declared.tables.Tables.{Tables}
use Rattle.shop_history.specs.declared.acts.Entry.{Entry}
use Rattle.shop_history.specs.declared.keys.Key.{Key}
use Rattle.shop_history.specs.Logs.{history, tables, IsGood}
use Rattle.shop_book.specs.Books.{BookValue}

-- no entry behind as many as the version says changes what the key shows, and behind fewer one does
pub record IsShortest (t : Tables) (log : List Entry) (key : Key) (version : ℕ) : Type 0 where
  pub still : IsStill history t log key version
  pub shortest : (count : ℕ) → IsStill history t log key count → version ≤ count

-- after so many entries the tables are sound, and there is room for the rest and one more
abbrev pub IsGoodThroughout : BookValue → Type 0
IsGoodThroughout b =
    (count : ℕ) → count ≤ length b.log → IsGood (tables b.opening.tables (take count b.log)) (b.opening.limit + 1 - count)
