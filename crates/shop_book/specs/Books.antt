-- What contracts see of a book, and what holds of every book.
use Rattle.std.specs.Prelude.{ℕ, ◌≤◌, List, length, All}
use Rattle.shop_model.specs.declared.tables.Tables.{Tables}
use Rattle.shop_model.specs.rows.Limits.{stamp_limit}
use Rattle.shop_history.specs.declared.acts.Entry.{Entry}
use Rattle.shop_history.specs.Logs as logs
use Rattle.shop_history.specs.Logs.{Legal}
use Rattle.shop_book.specs.declared.opening.Opening.{Opening}
use Rattle.shop_book.specs.Openings.{IsOpening}

-- what the shop opened with, the changes since, and the latest stamp
pub record BookValue : Type 0 where
  pub opening : Opening
  pub log : List Entry
  pub latest : ℕ

-- the log is legal and within its limit, and no stamp is above the latest one
pub record IsBook (b : BookValue) : Type 0 where
  pub opens : IsOpening b.opening
  pub legal : Legal b.opening.tables b.log
  pub short : length b.log ≤ b.opening.limit
  pub stamps : All (λ e. e.stamp ≤ b.latest) b.log
  pub bound : b.latest ≤ stamp_limit

-- the tables now
abbrev pub tables_of : BookValue → Tables
tables_of b = logs.tables b.opening.tables b.log
