use Rattle.std.proofs.Common.{refl, sym, ◌∙◌, subst}
use Rattle.shop_cache.proofs.cited.Caches.{all_looked}
use Rattle.shop_pages.specs.ReplyStates.{bytes_of}
use Rattle.shop_engine.specs.Keeping.{IsFoundList}
use Rattle.shop_engine.specs.Keeping.{AreKept, IsKept}
use Rattle.shop_engine.specs.Workers.{WorkerState}
use Rattle.shop_engine.proofs.KeptLemmas.{found_list}
use Rattle.shop_engine.proofs.worker.Worker.answer_list.Goals as goal

pub invariant_of-self : goal.invariant_of-self
invariant_of-self g c =
    let seat = g.St.Store.seat c.self.inside.store in
    let marked = g.St.Store.marked c.self.inside.store in
    let last = c.self.inside.last in (
      c.self.invariant.0,
      c.self.invariant.1,
      subst (AreKept seat marked last) (sym c.look.follows.holds-at-none) (all_looked (λ e. IsKept seat marked last e.0 e.1) c.in-Some.key c.self.inside.cache c.self.invariant.2),
    )

pub invariant_of-self-in_err-list_reply : goal.invariant_of-self-in_err-list_reply
invariant_of-self-in_err-list_reply g c =
    let seat = g.St.Store.seat c.self.inside.store in
    let marked = g.St.Store.marked c.self.inside.store in
    let last = c.self.inside.last in (
      c.self.invariant.0,
      c.self.invariant.1,
      subst (AreKept seat marked last) (sym c.look.follows.holds-at-none) (all_looked (λ e. IsKept seat marked last e.0 e.1) c.in-Some.key c.self.inside.cache c.self.invariant.2),
    )

pub invariant_of-self-2 : goal.invariant_of-self-2
invariant_of-self-2 g c =
    let seat = g.St.Store.seat c.self.inside.store in
    let marked = g.St.Store.marked c.self.inside.store in
    let last = c.self.inside.last in (
      c.self.invariant.0,
      c.self.invariant.1,
      subst (AreKept seat marked last) (sym c.look.follows.holds-at-none) (all_looked (λ e. IsKept seat marked last e.0 e.1) c.in-Some.key c.self.inside.cache c.self.invariant.2),
    )

pub returns-clause-found : goal.returns-clause-found
returns-clause-found g c =
    let kept = c.in-Some-look.kept.now in
    let bytes = bytes_of c.list_reply.new.reply in
    subst (λ (w : WorkerState g.row.St.Denot). IsFoundList (g.St.Store.seat w.store) (g.St.Store.marked w.store) c.args.request.now c.args.form kept.front w.progress.last bytes w.kept) c.self.view_is
    (found_list (g.St.Store.seat c.self.inside.store) (g.St.Store.marked c.self.inside.store) c.args.request.now c.args.form kept.front c.self.inside.last bytes c.self.inside.cache c.in-Some.key kept
    (sym c.in_ok-key.ensures ∙ c.in-Some.is) c.self.invariant.2 (sym c.in-Some-look.ensures.value) refl
    c.in_ok-list_reply.ensures)
