-- Calls that leave the file, one behind another.
use Rattle.std.proofs.Common.{◌≡◌, ◌≤◌, ◌∙◌, refl, arith}
use Rattle.shop_disk.specs.DiskStates.{DiskState, IsDisk, NoMore, Elapses}
use Rattle.shop_disk.proofs.cited.Moments.{started, goes_on}
use Rattle.shop_records.specs.Looking.{Looks}

pub looks_first : (disk : DiskState) → IsDisk disk → Looks disk disk
looks_first disk laws =
    record { told = refl; crash = λ image left. left; any_moment = started disk disk.may_leave laws.only_now; later = omega arith }

pub looks_more : (old mid new : DiskState) → Looks old mid → new.told ≡ mid.told → NoMore mid new → Elapses mid new → mid.faults ≤ new.faults → Looks old new
looks_more old mid new so_far told crash time later =
    record {
      told = told ∙ so_far.told;
      crash = λ image left. so_far.crash image (crash image left);
      any_moment = goes_on old mid new old.may_leave so_far.any_moment time (λ image left. so_far.crash image (crash image left));
      later = omega (arith, so_far.later, later);
    }
