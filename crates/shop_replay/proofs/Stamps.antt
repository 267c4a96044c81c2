-- The stamp of the last entry of a log.
use Rattle.std.proofs.Common.{◌≡◌, ℕ, ◌≤◌, List, [], ◌∷◌, ◌++◌, refl}
use Rattle.std.specs.Prelude.{All}
use Rattle.std.proofs.lemmas.List.Elements.{All-head, All-tail}
use Rattle.shop_history.specs.declared.acts.Entry.{Entry}
use Rattle.shop_replay.specs.Replays.{last_stamp_or}

pub last_stamp_push : (stamp : ℕ) (log : List Entry) (entry : Entry) → last_stamp_or stamp (log ++ entry ∷ []) ≡ entry.stamp
last_stamp_push stamp [] entry = refl
last_stamp_push stamp (first ∷ log) entry = last_stamp_push first.stamp log entry

-- it is none above a bound of all
pub last_stamp_within : (stamp bound : ℕ) (log : List Entry) → stamp ≤ bound → All (λ e. e.stamp ≤ bound) log → last_stamp_or stamp log ≤ bound
last_stamp_within stamp bound [] within all = within
last_stamp_within stamp bound (first ∷ log) within all =
    last_stamp_within first.stamp bound log (All-head (λ (e : Entry). e.stamp ≤ bound) first log all) (All-tail (λ (e : Entry). e.stamp ≤ bound) first log all)
