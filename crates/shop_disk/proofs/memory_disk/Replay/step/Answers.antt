use Rattle.std.proofs.Common.{◌≡◌, ◌≢◌, ◌-◌, min, List, ℕ, take, length, sym, ◌∙◌, ap, subst, arith, rules}
use Rattle.shop_disk.specs.declared.disk.Wrote.TheVariants as wrote
use Rattle.shop_disk.specs.declared.memory_disk.Call.TheVariants as call
use Rattle.shop_disk.specs.MemoryFiles.{Replays, after, overwritten}
use Rattle.shop_disk.proofs.MemoryFiles.{replayed, not_done}
use Rattle.shop_disk.proofs.memory_disk.Replay.step.Goals as goal

pub returns-in_ok-overwrite-in-Write-2 : goal.returns-in_ok-overwrite-in-Write-2
returns-in_ok-overwrite-in-Write-2 c = λ file so_far.
    let w = c.in-Write in
    let old = c.args.self.now in
    let is_done : w.wrote ≡ wrote.Done = search rules in
    let counted : c.min-count.result ≡ min old.left (length w.from) = omega (arith, c.min-count.ensures, c.len.ensures) in
    let over = c.in_ok-overwrite-in-Write.ensures.ok ∙ ap (λ (b : List ℕ). overwritten old.image.items w.at (take c.min-count.result b)) c.bytes.ensures in
    let more = c.in_ok-overwrite-in-Write-2.ensures.ok ∙ ap (overwritten old.bytes.items w.at) c.bytes-then-eq.ensures in
    subst (λ x. Replays c.args.keep (after file x) c.overwrite-then-eq.new.file.items c.overwrite.new.file.items (old.left - c.min-count.result)) (sym (c.in-Write.is ∙ ap (call.Write w.at w.from) is_done))
    (replayed c.args.keep file old.bytes.items old.image.items c.overwrite-then-eq.new.file.items c.overwrite.new.file.items old.left c.min-count.result w.at w.from wrote.Done so_far counted over more)

pub returns-else-eq : goal.returns-else-eq
returns-else-eq c = λ file so_far.
    let w = c.in-Write in
    let old = c.args.self.now in
    let other : w.wrote ≢ wrote.Done = search rules in
    let counted : c.min-count.result ≡ min old.left (length w.from) = omega (arith, c.min-count.ensures, c.len.ensures) in
    let over = c.in_ok-overwrite-in-Write.ensures.ok ∙ ap (λ (b : List ℕ). overwritten old.image.items w.at (take c.min-count.result b)) c.bytes.ensures in
    subst (λ x. Replays c.args.keep (after file x) old.bytes.items c.overwrite.new.file.items (old.left - c.min-count.result)) (sym c.in-Write.is)
    (replayed c.args.keep file old.bytes.items old.image.items old.bytes.items c.overwrite.new.file.items old.left c.min-count.result w.at w.from w.wrote so_far counted over
    (not_done (record file { bytes = old.bytes.items }) w.at w.from w.wrote other))
