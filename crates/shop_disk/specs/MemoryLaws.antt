-- What holds of every disk in memory.
use Rattle.std.specs.Prelude.{length}
use Rattle.std.proofs.Common.{inl, sym, subst, arith}
use Rattle.std.proofs.lemmas.List.{take_all}
use Rattle.shop_disk.specs.DiskStates.{IsDisk}
use Rattle.shop_disk.specs.MemoryFiles.{MayLeave}
use Rattle.shop_disk.specs.MemoryStates.{MemoryState, disk_of, file_after}

pub memory_is_disk : (disk : MemoryState) → IsDisk (disk_of disk)
memory_is_disk disk =
    record {
      reads_as_image = λ file is. inl (cc is);
      counts_now = λ at image since left. record {
        count = length disk.calls;
        since = since;
        until = omega arith;
        left = subst (λ calls. MayLeave (file_after disk.first calls) image) (sym (take_all (length disk.calls) disk.calls (omega arith))) left;
      };
      narrows = λ at later image le left. record { count = left.count; since = omega (arith, le, left.since); until = left.until; left = left.left };
      only_now = λ image left.
          subst (λ calls. MayLeave (file_after disk.first calls) image) (take_all left.count disk.calls left.since) left.left;
    }
