use Rattle.std.proofs.Common.{◌≡◌, ◌≤◌, ◌+◌, ◌<◌, ℕ, List, ◌++◌, drop, get_or, length, refl, ◌∙◌, ap, subst, arith}
use Rattle.shop_disk.specs.declared.memory_disk.Call.TheVariants as call
use Rattle.shop_disk.specs.MemoryFiles.{FileState}
use Rattle.shop_disk.specs.MemoryStates.{MemoryState, file_of}
use Rattle.shop_disk.proofs.MemoryFiles.{read_front}
use Rattle.shop_disk.proofs.MemoryStates.{look_told, look_leaves, look_file}
use Rattle.shop_disk.proofs.memory_disk.MemoryDiskDisk.read_at.Goals as goal

pub returns-then-look-clause-told : goal.returns-then-look-clause-told
returns-then-look-clause-told c = look_told (call.Read c.args.at) c.look.result c.args.self.now c.look.new.self c.look.ensures.asks (λ file. refl)

pub returns-then-look-clause-crash : goal.returns-then-look-clause-crash
returns-then-look-clause-crash c = look_leaves (call.Read c.args.at) c.look.result c.args.self.now c.look.new.self c.look.ensures.asks (λ file. refl)

pub returns-then-at-len-clause-bytes : goal.returns-then-at-len-clause-bytes
returns-then-at-len-clause-bytes c =
    let same = look_file (call.Read c.args.at) c.look.result c.args.self.now c.look.new.self c.look.ensures.asks (λ file. refl) in
    let bytes = c.self.invariant ∙ ap (λ (m : MemoryState). (file_of m).bytes) c.self.view_is ∙ ap (λ (f : FileState). f.bytes) same in
    omega (arith, c.if-at-len.true, c.len.ensures, c.self.inside.bytes.ok.0, ap length bytes)

pub returns-then-at-len-clause-told : goal.returns-then-at-len-clause-told
returns-then-at-len-clause-told c = look_told (call.Read c.args.at) c.look.result c.args.self.now c.look.new.self c.look.ensures.asks (λ file. refl)

pub returns-then-at-len-clause-crash : goal.returns-then-at-len-clause-crash
returns-then-at-len-clause-crash c = look_leaves (call.Read c.args.at) c.look.result c.args.self.now c.look.new.self c.look.ensures.asks (λ file. refl)

pub returns-clause-bytes : goal.returns-clause-bytes
returns-clause-bytes c =
    let same = look_file (call.Read c.args.at) c.look.result c.args.self.now c.look.new.self c.look.ensures.asks (λ file. refl) in
    let bytes = c.deref.ensures.value ∙ c.self.invariant ∙ ap (λ (m : MemoryState). (file_of m).bytes) c.self.view_is ∙ ap (λ (f : FileState). f.bytes) same in
    let front = c.copy_from_slice.new.self in
    let behind = drop c.min-count.result c.args.into.now in
    subst (λ (l : List ℕ). (c.args.at + c.min-count.result ≤ length l) × ((i : ℕ) → i < c.min-count.result → get_or (front ++ behind) i 0 ≡ get_or l (c.args.at + i) 0)) bytes
    (read_front c.deref.result.now front behind c.args.at c.min-count.result (omega (arith, c.if-at-len.false, c.len.ensures, c.self.inside.bytes.ok.0, ap length c.deref.ensures.value))
    (omega (arith, c.min-count.ensures)) c.copy_from_slice.ensures.after)

pub returns-clause-told : goal.returns-clause-told
returns-clause-told c = look_told (call.Read c.args.at) c.look.result c.args.self.now c.look.new.self c.look.ensures.asks (λ file. refl)

pub returns-clause-crash : goal.returns-clause-crash
returns-clause-crash c = look_leaves (call.Read c.args.at) c.look.result c.args.self.now c.look.new.self c.look.ensures.asks (λ file. refl)
