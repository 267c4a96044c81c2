-- How a run of disk calls goes on.
use Rattle.std.proofs.Common.{ℕ, List, inl, inr, ⊎_elim, arith}
use Rattle.shop_disk.specs.DiskStates.{DiskState, Elapses, LeavesOnly}

-- before the first call
pub started : (disk : DiskState) (P : List ℕ → Type 0) → ((image : List ℕ) → disk.left_since disk.moment image → P image) → LeavesOnly disk disk P
started disk P here = record { later = omega arith; each = here; before = λ at image le left. inl left }

-- one call more, after which a crash leaves what has P
pub goes_on : (old mid new : DiskState) (P : List ℕ → Type 0) → LeavesOnly old mid P → Elapses mid new → ((image : List ℕ) → new.may_leave image → P image) → LeavesOnly old new P
goes_on old mid new P so_far time here =
    record {
      later = omega (arith, so_far.later, time.later);
      each = λ image left. ⊎_elim (so_far.each image) (here image) (time.nothing_else old.moment image so_far.later left);
      before = λ at image le left.
          ⊎_elim (so_far.before at image le) (λ now. inr (here image now)) (time.nothing_else at image (omega (arith, le, so_far.later)) left);
    }

-- one run behind another
pub then_on : (old mid new : DiskState) (P Q R : List ℕ → Type 0) → LeavesOnly old mid P → LeavesOnly mid new Q
    → ((image : List ℕ) → P image → R image) → ((image : List ℕ) → Q image → R image) → LeavesOnly old new R
then_on old mid new P Q R first second to_first to_second =
    record {
      later = omega (arith, first.later, second.later);
      each = λ image left.
          ⊎_elim (λ was. to_first image (first.each image was)) (to_second image) (second.before old.moment image first.later left);
      before = λ at image le left.
          ⊎_elim (λ was. ⊎_elim (λ w. inl w) (λ p. inr (to_first image p)) (first.before at image le was)) (λ now. inr (to_second image now))
          (second.before at image (omega (arith, le, first.later)) left);
    }

-- the same, where less is said of the images
pub weaker : (old new : DiskState) (P Q : List ℕ → Type 0) → LeavesOnly old new P → ((image : List ℕ) → P image → Q image) → LeavesOnly old new Q
weaker old new P Q run to =
    record {
      later = run.later;
      each = λ image left. to image (run.each image left);
      before = λ at image le left. ⊎_elim (λ was. inl was) (λ p. inr (to image p)) (run.before at image le left);
    }
