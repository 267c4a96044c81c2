use Rattle.std.proofs.Common.{inl, refl, arith, [], length, All, ap, ◌∙◌, subst, sym}
use Rattle.shop_attempt.proofs.cited.Marks.{keeps_self, keeps_then as marks_then}
use Rattle.shop_book.specs.Solos.{seat_of}
use Rattle.shop_edges.proofs.cited.Known.{Consumes-nothing}
use Rattle.shop_engine.proofs.cited.SoFar.{nothing_met, still_standing, one_point, SoFar-message}
use Rattle.shop_engine.proofs.cited.Served.{Served-closed, Served-inside, Served-broken, Served-memory, Served-spent, Served-refusal}
use Rattle.std.proofs.lemmas.List.Elements.{All-nil}
use Rattle.shop_message.specs.Gatherings.{Gathering}
use Rattle.shop_engine.specs.Lists.{IsFreshPoint}
use Rattle.shop_keep.proofs.Appending.{keeps_none, keeps_then}
use Rattle.shop_keep.proofs.Ends.{ends_as}
use Rattle.shop_keep.proofs.connection.serve_all.Goals as goal

pub loop-alloc-init : goal.loop-alloc-init
loop-alloc-init g c =
    let none = c.new-points.ensures.items in
    record {
      so_far = nothing_met _ _ _ _ (ap (λ (v : Gathering). v.held) c.in-Ok.ensures) none;
      keeps = keeps_none _ _ _ refl;
      tells = refl;
      disk = omega arith;
      ended = ap (λ (v : Gathering). v.ended) c.in-Ok.ensures;
      few = omega (arith, ap length none);
      caller = refl;
      reads = omega arith;
      writes = omega arith;
      marks = keeps_self _ _;
      fresh = subst (All (IsFreshPoint _ _)) (sym none) (All-nil (IsFreshPoint _ _));
      failures = rw none (omega arith);
      asks = omega arith;
    }

pub returns-in_default-clause-kept : goal.returns-in_default-clause-kept
returns-in_default-clause-kept g c =
    rw c.at.ensures
    (inl (Served-memory _ _ _ _ [] _ (nothing_met _ _ [] _ refl c.new-points.ensures.items) _ _ [] (omega (arith, ap length c.new-points.ensures.items)) (Consumes-nothing _) (inl refl), keeps_none _ _ _ refl))

pub returns-in-End-clause-kept : goal.returns-in-End-clause-kept
returns-in-End-clause-kept g c =
    rw c.at-in-End.ensures (inl (Served-closed _ _ _ _ _ _ c.loop-alloc.invariant.so_far _ _ (omega (arith, c.len.ensures, c.loop-alloc-test.true)) c.in-End.ensures.next, c.loop-alloc.invariant.keeps))

pub returns-in-Cut-clause-kept : goal.returns-in-Cut-clause-kept
returns-in-Cut-clause-kept g c =
    rw c.at-in-Cut.ensures (inl (Served-inside _ _ _ _ _ _ c.loop-alloc.invariant.so_far _ _ (omega (arith, c.len.ensures, c.loop-alloc-test.true)) c.in-Cut.ensures.next, c.loop-alloc.invariant.keeps))

pub returns-in-Bad-clause-kept : goal.returns-in-Bad-clause-kept
returns-in-Bad-clause-kept g c =
    let still = still_standing seat_of c.loop-alloc.worker c.refuse-end.new.worker (g.C.Clock.readings c.loop-alloc.clock) (g.G.Gateway.answers c.loop-alloc.gateway) c.refuse-end.ensures.worker in
    rw c.at-in-Bad.ensures
    (inl (
      Served-refusal _ _ _ _ _ _ c.loop-alloc.invariant.so_far c.refuse-end.result _ _ _ _ _ _ (omega (arith, c.len.ensures, c.loop-alloc-test.true)) c.in-Bad.ensures.next c.refuse-end.ensures.told still,
      keeps_then _ _ _ _ _ _ c.loop-alloc.invariant.keeps (keeps_none _ _ _ (ap (λ w. w.store.book.log) c.refuse-end.ensures.worker)),
    ))

pub returns-in-ReadFault-clause-kept : goal.returns-in-ReadFault-clause-kept
returns-in-ReadFault-clause-kept g c =
    rw c.at-in-ReadFault.ensures (inl (Served-broken _ _ _ _ _ _ c.loop-alloc.invariant.so_far _ _ (omega (arith, c.len.ensures, c.loop-alloc-test.true)) c.in-ReadFault.ensures.next, c.loop-alloc.invariant.keeps))

pub returns-in-Memory-clause-kept : goal.returns-in-Memory-clause-kept
returns-in-Memory-clause-kept g c =
    rw c.at-in-Memory.ensures
    (inl (Served-memory _ _ _ _ _ _ c.loop-alloc.invariant.so_far _ _ c.in-Memory.ensures.next.piece (omega (arith, c.len.ensures, c.loop-alloc-test.true)) c.in-Memory.ensures.next.taken (inl refl), c.loop-alloc.invariant.keeps))

pub returns-in-Ends-clause-kept : goal.returns-in-Ends-clause-kept
returns-in-Ends-clause-kept g c =
    rw c.of.ensures
    (ends_as g.D.Disk.state _ _ _ _ _ _ _ _ _ _ _ _ _ _ _ c.loop-alloc.invariant.so_far (omega (arith, c.len.ensures, c.loop-alloc-test.true)) c.in-Message.ensures.next c.loop-alloc.invariant.keeps c.in-Ends.end c.in-Ends.ensures.turned)

pub returns-in-Ends-clause-marks : goal.returns-in-Ends-clause-marks
returns-in-Ends-clause-marks g c = marks_then _ _ _ _ _ _ c.loop-alloc.invariant.marks c.serve_one-turned.ensures.marks

pub loop-alloc-preserved : goal.loop-alloc-preserved
loop-alloc-preserved g c =
    let answered = c.in-On.ensures.turned.0 in
    record {
      so_far = rw c.reuse.ensures (SoFar-message _ _ _ _ _ _ _ _ _ _ _ _ _ c.loop-alloc.invariant.so_far refl c.in-Message.ensures.next answered);
      keeps = keeps_then _ _ _ _ _ _ c.loop-alloc.invariant.keeps c.in-On.ensures.turned.1;
      tells = c.in-On.ensures.tells ∙ c.loop-alloc.invariant.tells;
      disk = omega (arith, c.loop-alloc.invariant.disk, c.in-On.ensures.disk_later);
      ended = rw c.reuse.ensures c.in-Message.ensures.ended;
      few = omega (arith, c.len.ensures, c.loop-alloc-test.true, one_point _ _ _ _ _ answered);
      caller = c.serve_one-turned.ensures.caller ∙ c.loop-alloc.invariant.caller;
      reads = omega (arith, c.loop-alloc.invariant.reads, c.in-Message.ensures.later);
      writes = omega (arith, c.loop-alloc.invariant.writes, c.serve_one-turned.ensures.writes);
      marks = marks_then _ _ _ _ _ _ c.loop-alloc.invariant.marks c.serve_one-turned.ensures.marks;
      fresh = c.serve_one-turned.ensures.fresh c.loop-alloc.invariant.fresh;
      failures = c.serve_one-turned.ensures.failures (g.G.Gateway.faults c.args.gateway.now) c.loop-alloc.invariant.failures;
      asks = omega (arith, c.loop-alloc.invariant.asks, c.serve_one-turned.ensures.asks);
    }

pub returns-clause-kept : goal.returns-clause-kept
returns-clause-kept g c =
    rw c.at-2.ensures
    (inl (Served-spent _ _ _ _ _ _ c.loop-alloc.invariant.so_far _ [] (omega (arith, c.len.ensures, c.loop-alloc.invariant.few, c.loop-alloc-test.false)) (Consumes-nothing _), c.loop-alloc.invariant.keeps))
