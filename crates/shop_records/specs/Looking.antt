-- Calls of a disk that leave its file.
use Rattle.std.specs.Prelude.{◌≡◌, ◌≤◌}
use Rattle.shop_disk.specs.DiskStates.{DiskState, NoMore, LeavesOnly}

-- the file reads as before, and a crash at no moment leaves more than it might have left
pub record Looks (old now : DiskState) : Type 0 where
  pub told : now.told ≡ old.told
  pub crash : NoMore old now
  pub any_moment : LeavesOnly old now old.may_leave
  pub later : old.faults ≤ now.faults
