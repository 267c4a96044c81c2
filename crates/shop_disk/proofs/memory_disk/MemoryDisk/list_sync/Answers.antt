use Rattle.std.proofs.Common.{◌≡◌, ◌++◌, ◌∷◌, [], rules}
use Rattle.shop_disk.specs.declared.disk.Wrote.TheVariants as wrote
use Rattle.shop_disk.specs.declared.memory_disk.Call.TheVariants as call
use Rattle.shop_disk.proofs.MemoryStates.{bytes_more}
use Rattle.shop_disk.proofs.memory_disk.MemoryDisk.list_sync.Goals as goal

pub invariant_of-self-then-is_next : goal.invariant_of-self-then-is_next
invariant_of-self-then-is_next c =
    let m = c.self.inside in
    let more : c.push.new.self.items ≡ m.calls.items ++ (call.Sync wrote.Failed) ∷ [] = search rules in
    bytes_more m.bytes.items m.first m.calls.items c.push.new.self.items (call.Sync wrote.Failed) more c.self.invariant

pub invariant_of-self-2 : goal.invariant_of-self-2
invariant_of-self-2 c =
    let m = c.self.inside in
    let more : c.push-2.new.self.items ≡ m.calls.items ++ (call.Sync wrote.Done) ∷ [] = search rules in
    bytes_more m.bytes.items m.first m.calls.items c.push-2.new.self.items (call.Sync wrote.Done) more c.self.invariant
