use Rattle.std.proofs.Common.{refl}
use Rattle.shop_disk.specs.declared.memory_disk.Call.TheVariants as call
use Rattle.shop_disk.proofs.MemoryStates.{look_told}
use Rattle.shop_disk.proofs.memory_disk.MemoryDiskDisk.open.Goals as goal

pub returns-clause-told : goal.returns-clause-told
returns-clause-told c = look_told call.Open c.look.result c.args.self.now c.look.new.self c.look.ensures.asks (λ file. refl)
