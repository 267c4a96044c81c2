use Rattle.shop_disk.proofs.MemoryStates.{sync_durable, sync_told, sync_leaves}
use Rattle.shop_disk.proofs.memory_disk.MemoryDiskDisk.sync.Goals as goal

pub returns-clause-durable : goal.returns-clause-durable
returns-clause-durable c = sync_durable c.args.self.now c.list_sync.new.self c.in-Ok.answer c.in-Ok.ensures.ok.1

pub returns-clause-told : goal.returns-clause-told
returns-clause-told c = sync_told c.args.self.now c.list_sync.new.self c.in-Ok.answer c.in-Ok.ensures.ok.1

pub returns-clause-crash : goal.returns-clause-crash
returns-clause-crash c = sync_leaves c.args.self.now c.list_sync.new.self c.in-Ok.answer c.in-Ok.ensures.ok.1
