use Rattle.std.proofs.Common.{List, Option, Some, sym, ◌∙◌, subst}
use Rattle.shop_cache.specs.declared.lines.ListLine.{ListLine}
use Rattle.shop_cache.specs.declared.keys.ListKey.{ListKey}
use Rattle.shop_cache.specs.Keys.{key_asked}
use Rattle.shop_cache.proofs.cited.Caches.{all_with_kept}
use Rattle.shop_engine.specs.Keeping.{KeepsLines}
use Rattle.shop_engine.specs.Keeping.{AreKept, IsKept}
use Rattle.shop_engine.specs.Workers.{WorkerState}
use Rattle.shop_engine.proofs.worker.Worker.keep.Goals as goal

pub invariant_of-self-2 : goal.invariant_of-self-2
invariant_of-self-2 g c =
    let seat = g.St.Store.seat c.self.inside.store in
    let marked = g.St.Store.marked c.self.inside.store in
    let last = c.self.inside.last in
    let here = subst (λ (w : WorkerState g.row.St.Denot). KeepsLines (g.St.Store.seat w.store) (g.St.Store.marked w.store) w.progress.last (key_asked c.args.request.now) c.args.front c.args.lines) (sym c.self.view_is) c.requires in
    let may =
    subst (λ (k : Option ListKey). KeepsLines seat marked last k c.args.front (Some c.in-Some.lines)) (sym c.in_ok-key.ensures ∙ c.in-Some-2.is)
    (subst (λ (l : Option (List ListLine)). KeepsLines seat marked last (key_asked c.args.request.now) c.args.front l) c.in-Some.is here) in (
      c.self.invariant.0,
      c.self.invariant.1,
      subst (AreKept seat marked last) (sym c.in_ok-keep.ensures.ok) (all_with_kept (λ e. IsKept seat marked last e.0 e.1) c.in-Some-2.key _ c.self.inside.cache may c.self.invariant.2),
    )
