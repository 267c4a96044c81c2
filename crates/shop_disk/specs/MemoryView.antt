-- A disk in memory, as contracts see it.
use Rattle.shop_disk.specs.declared.memory_disk.MemoryDisk.TheInside.{Inside}
use Rattle.shop_disk.specs.MemoryStates.{MemoryState}

abbrev pub state_of : Inside → MemoryState
state_of disk = record { first = disk.first; calls = disk.calls.items; fails = disk.fails; faults = disk.faults }
