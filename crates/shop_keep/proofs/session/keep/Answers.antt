use Rattle.std.proofs.Common.{◌∙◌, List, Ok, Err, ap, arith, subst}
use Rattle.shop_history.specs.declared.acts.Entry.{Entry}
use Rattle.shop_keep.specs.Workers.{WorksAs}
use Rattle.shop_keep.proofs.Unserved.{kept_since, ready_for, unopened_by, unworked_by}
use Rattle.shop_keep.proofs.session.keep.Goals as goal

pub returns-in-Not-clause-kept : goal.returns-in-Not-clause-kept
returns-in-Not-clause-kept g c =
    unopened_by c.args.asked.now.shop (g.D.Disk.named c.args.disk c.args.asked.now.journal) (g.D.Disk.state c.args.disk) (g.D.Disk.state c.open.new.self) (g.D.Disk.state c.in-Not.disk) _
    (c.in-Open.ensures.told ∙ ap (g.D.Disk.named c.args.disk) c.bytes.ensures) c.in-Open.ensures.cause.later c.in-Not.ensures.left c.in-Not.status c.in-Not.ensures.opened

pub returns-in-Ok-clause-kept : goal.returns-in-Ok-clause-kept
returns-in-Ok-clause-kept g c =
    let shop = c.args.asked.now.shop in
    let named = g.D.Disk.named c.args.disk c.args.asked.now.journal in
    let there = g.D.Disk.state c.in-Journal.journal in
    let entries = c.in-Journal.entries.items in
    let works : WorksAs shop entries (Ok c.in-Ok.worker) = subst (λ (l : List Entry). WorksAs shop l (Ok c.in-Ok.worker)) c.deref.ensures.value c.in-Ok.ensures in
    kept_since shop named (g.D.Disk.state c.args.disk) there (g.D.Disk.state c.serve_over.result.1) _ _ c.serve_over.result.0 (omega (arith, c.in-Open.ensures.cause.later, c.in-Journal.ensures.later))
    (c.serve_over.ensures.kept shop named entries
    (ready_for shop named (g.D.Disk.state c.open.new.self) there entries c.in-Ok.worker (c.in-Open.ensures.told ∙ ap (g.D.Disk.named c.args.disk) c.bytes.ensures) c.in-Journal.ensures.opened works))

pub returns-clause-kept : goal.returns-clause-kept
returns-clause-kept g c =
    let shop = c.args.asked.now.shop in
    let there = g.D.Disk.state c.in-Journal.journal in
    let entries = c.in-Journal.entries.items in
    let none : WorksAs shop entries (Err c.in-Err.status) = subst (λ (l : List Entry). WorksAs shop l (Err c.in-Err.status)) c.deref.ensures.value c.in-Err.ensures in
    rw c.into_disk.ensures
    (unworked_by shop (g.D.Disk.named c.args.disk c.args.asked.now.journal) (g.D.Disk.state c.args.disk) (g.D.Disk.state c.open.new.self) there _
    (c.in-Open.ensures.told ∙ ap (g.D.Disk.named c.args.disk) c.bytes.ensures) c.in-Open.ensures.cause.later c.in-Journal.ensures.left there entries c.in-Err.status c.in-Journal.ensures.opened none)
