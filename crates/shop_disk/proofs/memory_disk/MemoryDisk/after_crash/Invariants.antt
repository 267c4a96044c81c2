use Rattle.std.proofs.Common.{take}
use Rattle.shop_disk.specs.MemoryFiles.{Replays}
use Rattle.shop_disk.specs.MemoryStates.{file_after}
use Rattle.shop_disk.proofs.memory_disk.MemoryDisk.after_crash.Given as goal

abbrev pub invariant-loop-call : goal.invariant-loop-call
invariant-loop-call l =
    Replays l.keep (file_after l.fn.self.first (take l.call-index l.fn.self.calls)) l.replay.bytes.items l.replay.image.items l.replay.left
