use Rattle.std.proofs.Common.{◌≡◌, ◌++◌, ◌∷◌, [], List, ℕ, ◌∙◌, sym, ap, rules}
use Rattle.shop_disk.specs.declared.disk.Wrote.TheVariants as wrote
use Rattle.shop_disk.specs.declared.memory_disk.Call.TheVariants as call
use Rattle.shop_disk.specs.MemoryFiles.{overwritten}
use Rattle.shop_disk.specs.MemoryStates.{file_after}
use Rattle.shop_disk.proofs.MemoryStates.{bytes_more}
use Rattle.shop_disk.proofs.memory_disk.MemoryDisk.list_write.Goals as goal

pub invariant_of-self-then-is_next : goal.invariant_of-self-then-is_next
invariant_of-self-then-is_next c =
    let m = c.self.inside in
    let more : c.push_reserved.new.self.items ≡ m.calls.items ++ (call.Write c.args.at c.in_ok-copy.copy wrote.Failed) ∷ [] = search rules in
    bytes_more m.bytes.items m.first m.calls.items c.push_reserved.new.self.items (call.Write c.args.at c.in_ok-copy.copy wrote.Failed) more c.self.invariant

pub invariant_of-self-2 : goal.invariant_of-self-2
invariant_of-self-2 c =
    let m = c.self.inside in
    let more : c.push_reserved-2.new.self.items ≡ m.calls.items ++ (call.Write c.args.at c.in_ok-copy.copy wrote.Done) ∷ [] = search rules in
    bytes_more c.overwrite.new.file.items m.first m.calls.items c.push_reserved-2.new.self.items (call.Write c.args.at c.in_ok-copy.copy wrote.Done) more
    (c.in_ok-overwrite.ensures.ok ∙ ap (λ (b : List ℕ). overwritten b c.args.at c.args.from.now) c.self.invariant
    ∙ ap (overwritten (file_after m.first m.calls.items).bytes c.args.at) (sym c.in_ok-copy.ensures))
