-- What holds of a shop at all times.
use Rattle.std.specs.Prelude.{ℕ, List, take}
use Rattle.shop_model.specs.declared.tables.Tables.{Tables}
use Rattle.shop_model.specs.rows.Sound.{Sound}
use Rattle.shop_history.specs.declared.acts.Entry.{Entry}
use Rattle.shop_history.specs.Logs.{tables, Legal}

-- the log is legal, and the tables are sound after each of its beginnings
pub record IsLawful (opening : Tables) (log : List Entry) : Type 0 where
  pub legal : Legal opening log
  pub sound : (count : ℕ) → Sound (tables opening (take count log))
