-- The tables after one entry more, and the versions of keys.
use Rattle.std.proofs.Common.{◌≡◌, ◌≢◌, ◌+◌, List, [], ◌∷◌, ◌++◌, length, refl}
use Rattle.shop_log.proofs.cited.Versions.{state_after-push, version_of-nil, stays_version, moves_version}
use Rattle.shop_log.specs.Histories.{state_after}
use Rattle.shop_model.specs.declared.tables.Tables.{Tables}
use Rattle.shop_history.specs.declared.acts.Entry.{Entry}
use Rattle.shop_history.specs.declared.keys.Key.{Key}
use Rattle.shop_history.specs.Keys.{row_of}
use Rattle.shop_history.specs.Logs.{history, after, tables, version_of}

pub tables_nil : (t : Tables) → tables t [] ≡ t
unfolding state_after
tables_nil t = refl

pub tables_push : (t : Tables) (log : List Entry) (entry : Entry) → tables t (log ++ entry ∷ []) ≡ after (tables t log) entry
unfolding history
tables_push t log entry = state_after-push history t log entry

pub version_nil : (t : Tables) (key : Key) → version_of t [] key ≡ 0
version_nil t key = version_of-nil history t key

-- an entry that leaves what a key shows leaves its version
pub version_same : (t : Tables) (log : List Entry) (entry : Entry) (key : Key) → row_of (tables t (log ++ entry ∷ [])) key ≡ row_of (tables t log) key → version_of t (log ++ entry ∷ []) key ≡ version_of t log key
unfolding history
version_same t log entry key same = stays_version history t log entry key same

-- one that changes it makes its number the version
pub version_new : (t : Tables) (log : List Entry) (entry : Entry) (key : Key) → row_of (tables t (log ++ entry ∷ [])) key ≢ row_of (tables t log) key → version_of t (log ++ entry ∷ []) key ≡ length log + 1
unfolding history
version_new t log entry key apart = moves_version history t log entry key apart
