use Rattle.std.proofs.Common.{length, refl, ◌∙◌, ap}
use Rattle.shop_disk.specs.declared.memory_disk.Call.TheVariants as call
use Rattle.shop_disk.specs.MemoryFiles.{FileState}
use Rattle.shop_disk.specs.MemoryStates.{MemoryState, file_of}
use Rattle.shop_disk.proofs.MemoryStates.{look_told, look_leaves, look_file}
use Rattle.shop_disk.proofs.memory_disk.MemoryDiskDisk.length.Goals as goal

pub returns-then-look-clause-told : goal.returns-then-look-clause-told
returns-then-look-clause-told c = look_told call.Length c.look.result c.args.self.now c.look.new.self c.look.ensures.asks (λ file. refl)

pub returns-then-look-clause-crash : goal.returns-then-look-clause-crash
returns-then-look-clause-crash c = look_leaves call.Length c.look.result c.args.self.now c.look.new.self c.look.ensures.asks (λ file. refl)

pub returns-clause-length : goal.returns-clause-length
returns-clause-length c =
    let same = look_file call.Length c.look.result c.args.self.now c.look.new.self c.look.ensures.asks (λ file. refl) in
    let bytes = c.self.invariant ∙ ap (λ (m : MemoryState). (file_of m).bytes) c.self.view_is ∙ ap (λ (f : FileState). f.bytes) same in
    c.len.ensures ∙ c.self.inside.bytes.ok.0 ∙ ap length bytes

pub returns-clause-told : goal.returns-clause-told
returns-clause-told c = look_told call.Length c.look.result c.args.self.now c.look.new.self c.look.ensures.asks (λ file. refl)

pub returns-clause-crash : goal.returns-clause-crash
returns-clause-crash c = look_leaves call.Length c.look.result c.args.self.now c.look.new.self c.look.ensures.asks (λ file. refl)
