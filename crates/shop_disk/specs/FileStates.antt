-- What is known of a file of the system: how many calls have failed.
use Rattle.std.specs.Prelude.{ℕ, None}
use Rattle.shop_disk.specs.DiskStates.{DiskState, IsDisk}

-- it may hold any bytes, now and after a crash
abbrev pub untold : ℕ → DiskState
untold faults = record { told = None; may_leave = λ _. Unit {0}; moment = 0; left_since = λ _ _. Unit {0}; faults = faults }

pub untold_is_disk : (faults : ℕ) → IsDisk (untold faults)
untold_is_disk faults = record { reads_as_image = λ _ _. tt; counts_now = λ _ _ _ _. tt; narrows = λ _ _ _ _ _. tt; only_now = λ _ _. tt }
