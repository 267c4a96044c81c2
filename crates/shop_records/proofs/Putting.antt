-- What a crash leaves of a write onto a file that is on the disk.
use Rattle.std.proofs.Common.{◌≡◌, ℕ, List, length, Option, Some, None, refl, sym, subst}
use Rattle.std.specs.Prelude.{is_some}
use Rattle.shop_disk.specs.Images.{Torn, Holds}
use Rattle.shop_disk.specs.DiskStates.{DiskState, IsDisk, NoMore, Follows, Elapses, LeavesOnly}
use Rattle.shop_disk.specs.Calls.{WritesAt}
use Rattle.shop_disk.specs.declared.disk.Wrote.{Wrote}
use Rattle.shop_disk.specs.declared.disk.Wrote.TheVariants as wrote
use Rattle.shop_disk.proofs.cited.Torn.{torn_same}
use Rattle.shop_disk.proofs.cited.Moments.{started, goes_on}
use Rattle.shop_records.specs.Standing.{IsDurable}

module _ (old mid : DiskState) (at count : ℕ) (file : List ℕ) (is : old.told ≡ Some file) (durable : IsDurable old) (follows : Follows (Torn at count) old mid) where
  -- each image of the write is the file, torn
  torn_image : (image : List ℕ) → mid.may_leave image → Torn at count file image
  torn_image image left = let from = follows image left in subst (λ f. Torn at count f image) (durable file is from.0 from.1) from.2

  pub torn_write : IsDisk old → Elapses old mid → LeavesOnly old mid (Torn at count file)
  torn_write laws time =
      let at_start = started old (Torn at count file) (λ image left. subst (λ f. Torn at count file f) (sym (durable file is image (laws.only_now image left))) (torn_same at count file)) in
      goes_on old old mid (Torn at count file) at_start time torn_image

  -- and of a call behind it, after which a crash leaves no more
  pub and_more : (new : DiskState) → LeavesOnly old mid (Torn at count file) → NoMore mid new → Elapses mid new → LeavesOnly old new (Torn at count file)
  and_more new wrote no_more time = goes_on old mid new (Torn at count file) wrote time (λ image left. torn_image image (no_more image left))

-- what is known of a file that was written
pub record Written (new : Option (List ℕ)) (file : List ℕ) (at : ℕ) (bytes : List ℕ) : Type 0 where
  pub now : List ℕ
  pub is : new ≡ Some now
  pub torn : Torn at (length bytes) file now
  pub holds : Holds now at bytes

pub written_known : (old new : Option (List ℕ)) (file : List ℕ) (at : ℕ) (bytes : List ℕ) (answer : Wrote) → old ≡ Some file → answer ≡ wrote.Done → WritesAt old new at bytes answer → Written new file at bytes
written_known None new file at bytes answer is done so = absurd (cc is)
written_known (Some old) None file at bytes answer is done so = absurd so
written_known (Some old) (Some new) file at bytes wrote.Failed is done so = absurd (cc done)
written_known (Some old) (Some new) file at bytes wrote.Done is done so =
    let same : old ≡ file = cc is in
    record { now = new; is = refl; torn = subst (λ f. Torn at (length bytes) f new) same so.0; holds = so.1 }

-- where the new file is known, so was the old one
pub known_before : (old new : Option (List ℕ)) (file : List ℕ) (at : ℕ) (bytes : List ℕ) (answer : Wrote) → new ≡ Some file → WritesAt old new at bytes answer → (was : List ℕ) × (old ≡ Some was)
known_before None None file at bytes answer is so = absurd (cc is)
known_before None (Some new) file at bytes answer is so = absurd so
known_before (Some old) new file at bytes answer is so = (old, refl)

-- a write keeps whether a disk tells its file
pub writes_tell : (old new : Option (List ℕ)) (at : ℕ) (bytes : List ℕ) (answer : Wrote) → WritesAt old new at bytes answer → is_some new ≡ is_some old
writes_tell None None at bytes answer is = refl
writes_tell None (Some new) at bytes answer is = absurd is
writes_tell (Some old) None at bytes answer is = absurd is
writes_tell (Some old) (Some new) at bytes answer is = refl
