use Rattle.std.proofs.Common.{◌≡◌, ◌<◌, List, get_or, length, take, take_all, sym, ◌∙◌, ap, subst, arith}
use Rattle.shop_disk.specs.declared.memory_disk.Call.{Call}
use Rattle.shop_disk.specs.MemoryFiles.{Replays, MayLeave, crashed}
use Rattle.shop_disk.specs.MemoryStates.{MemoryState, file_of, file_after}
use Rattle.shop_disk.proofs.MemoryFiles.{crashed_left}
use Rattle.shop_disk.proofs.MemoryStates.{file_more}
use Rattle.shop_disk.proofs.memory_disk.MemoryDisk.after_crash.Goals as goal

pub loop-call-preserved : goal.loop-call-preserved
loop-call-preserved c =
    let disk = c.args.self.now in
    let index = c.loop-call.call-index in
    let item = c.call-item.result in
    let same = c.deref-call-items.ensures.value ∙ ap (λ (m : MemoryState). m.calls) c.self.view_is in
    let within = subst (λ (l : List Call). index < length l) same c.loop-call-test.true in
    let is = subst (λ (l : List Call). item ≡ get_or l index item) same c.call-item.is in
    subst (λ f. Replays c.args.keep f c.step.new.self.bytes.items c.step.new.self.image.items c.step.new.self.left) (sym (file_more disk.first disk.calls index item within is))
    (c.in_ok-step.ensures (file_after disk.first (take index disk.calls)) c.loop-call.invariant)

pub returns-clause-left : goal.returns-clause-left
returns-clause-left c =
    let disk = c.args.self.now in
    let same = c.deref-call-items.ensures.value ∙ ap (λ (m : MemoryState). m.calls) c.self.view_is in
    let whole = take_all c.loop-call.call-index disk.calls (omega (arith, c.loop-call-test.false, ap length same)) in
    let image = c.from_vec.ensures ∙ c.loop-call.invariant.image_is ∙ ap (λ (l : List Call). crashed c.args.keep (file_after disk.first l)) whole in
    subst (MayLeave (file_of disk)) (sym image) (crashed_left c.args.keep (file_of disk))
