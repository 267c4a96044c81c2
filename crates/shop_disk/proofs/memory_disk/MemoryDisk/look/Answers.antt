use Rattle.std.proofs.Common.{◌∙◌, inl, ap, sym, rules}
use Rattle.shop_disk.specs.MemoryFiles.{FileState}
use Rattle.shop_disk.specs.MemoryStates.{file_after, listed}
use Rattle.shop_disk.proofs.MemoryStates.{listed_failing, listed_done, next_of, bytes_more}
use Rattle.shop_disk.proofs.memory_disk.MemoryDisk.look.Goals as goal

pub invariant_of-self-then-fails : goal.invariant_of-self-then-fails
invariant_of-self-then-fails c =
    let m = c.self.inside in
    bytes_more m.bytes.items m.first m.calls.items c.push.new.self.items c.args.call c.in-Ok.ensures.items
    (c.self.invariant ∙ ap (λ (f : FileState). f.bytes) (sym (c.requires (file_after m.first m.calls.items))))

pub invariant_of-self-else-fails : goal.invariant_of-self-else-fails
invariant_of-self-else-fails c =
    let m = c.self.inside in
    bytes_more m.bytes.items m.first m.calls.items c.push.new.self.items c.args.call c.in-Ok.ensures.items
    (c.self.invariant ∙ ap (λ (f : FileState). f.bytes) (sym (c.requires (file_after m.first m.calls.items))))

pub returns-then-fails-clause-asks : goal.returns-then-fails-clause-asks
returns-then-fails-clause-asks c =
    let m = c.self.inside in
    let fails = next_of c.args.call m.first m.calls.items c.push.new.self.items m.fails m.faults c.args.self.now c.self.view_is c.in-Ok.ensures.items c.is_next-fails.result (search rules) in
    inl (
      fails,
      listed_failing c.args.call m.first m.calls.items c.push.new.self.items m.fails m.faults c.args.self.now c.self.view_is c.in-Ok.ensures.items _ (search rules)
          ∙ ap (λ b. listed c.args.call b c.args.self.now) (sym c.if-fails.true),
    )

pub returns-else-fails-clause-asks : goal.returns-else-fails-clause-asks
returns-else-fails-clause-asks c =
    let m = c.self.inside in
    let fails = next_of c.args.call m.first m.calls.items c.push.new.self.items m.fails m.faults c.args.self.now c.self.view_is c.in-Ok.ensures.items c.is_next-fails.result (search rules) in
    inl (
      fails,
      listed_done c.args.call m.first m.calls.items c.push.new.self.items m.fails m.faults c.args.self.now c.self.view_is c.in-Ok.ensures.items
          ∙ ap (λ b. listed c.args.call b c.args.self.now) (sym c.if-fails.false),
    )
