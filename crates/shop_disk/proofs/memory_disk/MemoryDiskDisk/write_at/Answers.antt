use Rattle.shop_disk.proofs.MemoryStates.{write_torn, write_written}
use Rattle.shop_disk.proofs.memory_disk.MemoryDiskDisk.write_at.Goals as goal

pub returns-clause-written : goal.returns-clause-written
returns-clause-written c = write_written c.args.self.now c.list_write.new.self c.args.at c.args.from.now c.in-Ok.answer c.in-Ok.ensures.ok.1 c.requires

pub returns-clause-crash : goal.returns-clause-crash
returns-clause-crash c = write_torn c.args.self.now c.list_write.new.self c.args.at c.args.from.now c.in-Ok.answer c.in-Ok.ensures.ok.1
