-- Rows that others changed after they were read.
use Rattle.std.specs.Prelude.{◌≡◌, ◌≢◌, ℕ, ◌-◌, ◌<◌, List, Some, slice_get}
use Rattle.shop_log.specs.Histories as histories
use Rattle.shop_model.specs.declared.tables.Tables.{Tables}
use Rattle.shop_history.specs.declared.acts.Entry.{Entry}
use Rattle.shop_history.specs.Logs.{history}
use Rattle.shop_attempt.specs.declared.attempts.Conflict.{Conflict}

-- a row was changed after it was read, by the entry that the version found names
pub record IsOvertaken (t : Tables) (log : List Entry) (c : Conflict) : Type 0 where
  pub later : c.read < c.found
  pub changed : histories.ChangedAt history t log c.key c.found

-- and that entry is another caller's
pub record IsConflict (t : Tables) (log : List Entry) (caller : ℕ) (c : Conflict) : Type 0 where
  pub overtaken : IsOvertaken t log c
  pub other : (entry : Entry) → slice_get log (c.found - 1) ≡ Some entry → entry.caller ≢ caller
