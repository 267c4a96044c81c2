use Rattle.std.proofs.Common.{inl, refl, arith, [], length, All, ap, ◌∙◌, subst, sym}
use Rattle.shop_attempt.proofs.cited.Marks.{keeps_self, keeps_then}
use Rattle.shop_edges.proofs.cited.Known.{Consumes-nothing}
use Rattle.shop_engine.proofs.cited.SoFar.{nothing_met, still_standing, one_point, SoFar-message}
use Rattle.shop_engine.proofs.cited.Served.{Served-closed, Served-inside, Served-broken, Served-memory, Served-spent, Served-message, Served-refusal}
use Rattle.std.proofs.lemmas.List.Elements.{All-nil}
use Rattle.shop_message.specs.Gatherings.{Gathering}
use Rattle.shop_engine.specs.Lists.{IsFreshPoint}
use Rattle.shop_engine.proofs.connection.serve_all.Goals as goal

pub loop-source-init : goal.loop-source-init
loop-source-init g c =
    let none = c.new-points.ensures.items in
    record {
      so_far = nothing_met _ _ _ _ (ap (λ (v : Gathering). v.held) c.in-Ok.ensures) none;
      ended = ap (λ (v : Gathering). v.ended) c.in-Ok.ensures;
      few = omega (arith, ap length none);
      caller = refl;
      reads = omega arith;
      writes = omega arith;
      marks = keeps_self _ _;
      fresh = subst (All (IsFreshPoint _ _)) (sym none) (All-nil (IsFreshPoint _ _));
      failures = rw none (omega arith);
      asks = omega arith;
    }

pub returns-in_default-clause-served : goal.returns-in_default-clause-served
returns-in_default-clause-served g c =
    rw c.of.ensures (Served-memory _ _ _ _ [] _ (nothing_met _ _ [] _ refl c.new-points.ensures.items) _ _ [] (omega (arith, ap length c.new-points.ensures.items)) (Consumes-nothing _) (inl refl))

pub returns-in-End-clause-served : goal.returns-in-End-clause-served
returns-in-End-clause-served g c =
    rw c.of-in-End.ensures (Served-closed _ _ _ _ _ _ c.loop-source.invariant.so_far _ _ (omega (arith, c.len.ensures, c.loop-source-test.true)) c.in-End.ensures.next)

pub returns-in-Cut-clause-served : goal.returns-in-Cut-clause-served
returns-in-Cut-clause-served g c =
    rw c.of-in-Cut.ensures (Served-inside _ _ _ _ _ _ c.loop-source.invariant.so_far _ _ (omega (arith, c.len.ensures, c.loop-source-test.true)) c.in-Cut.ensures.next)

pub returns-in-Bad-clause-served : goal.returns-in-Bad-clause-served
returns-in-Bad-clause-served g c =
    rw c.of-in-Bad.ensures
    (Served-refusal _ _ _ _ _ _ c.loop-source.invariant.so_far c.refuse-end.result _ _ _ _ _ _ (omega (arith, c.len.ensures, c.loop-source-test.true)) c.in-Bad.ensures.next c.refuse-end.ensures.told
    (still_standing g.St.Store.seat c.loop-source.worker c.refuse-end.new.worker _ _ c.refuse-end.ensures.worker))

pub returns-in-ReadFault-clause-served : goal.returns-in-ReadFault-clause-served
returns-in-ReadFault-clause-served g c =
    rw c.of-in-ReadFault.ensures (Served-broken _ _ _ _ _ _ c.loop-source.invariant.so_far _ _ (omega (arith, c.len.ensures, c.loop-source-test.true)) c.in-ReadFault.ensures.next)

pub returns-in-Memory-clause-served : goal.returns-in-Memory-clause-served
returns-in-Memory-clause-served g c =
    rw c.of-in-Memory.ensures
    (Served-memory _ _ _ _ _ _ c.loop-source.invariant.so_far _ _ c.in-Memory.ensures.next.piece (omega (arith, c.len.ensures, c.loop-source-test.true)) c.in-Memory.ensures.next.taken (inl refl))

pub returns-in-Some-clause-served : goal.returns-in-Some-clause-served
returns-in-Some-clause-served g c =
    rw c.of-in-Some.ensures
    (Served-message c.in-Some.end _ _ _ _ _ _ _ _ _ _ _ _ _ c.loop-source.invariant.so_far (omega (arith, c.len.ensures, c.loop-source-test.true))
    refl c.in-Message.ensures.next c.in-Some.ensures.message)

pub loop-source-preserved : goal.loop-source-preserved
loop-source-preserved g c =
    let answered = c.in_default-ended.ensures.message in
    record {
      so_far = rw c.reuse.ensures (SoFar-message _ _ _ _ _ _ _ _ _ _ _ _ _ c.loop-source.invariant.so_far refl c.in-Message.ensures.next answered);
      ended = rw c.reuse.ensures c.in-Message.ensures.ended;
      few = omega (arith, c.len.ensures, c.loop-source-test.true, one_point _ _ _ _ _ answered);
      caller = c.serve_one-ended.ensures.caller ∙ c.loop-source.invariant.caller;
      reads = omega (arith, c.loop-source.invariant.reads, c.in-Message.ensures.later);
      writes = omega (arith, c.loop-source.invariant.writes, c.serve_one-ended.ensures.writes);
      marks = keeps_then _ _ _ _ _ _ c.loop-source.invariant.marks c.serve_one-ended.ensures.marks;
      fresh = c.serve_one-ended.ensures.fresh c.loop-source.invariant.fresh;
      failures = c.serve_one-ended.ensures.failures (g.G.Gateway.faults c.args.gateway.now) c.loop-source.invariant.failures;
      asks = omega (arith, c.loop-source.invariant.asks, c.serve_one-ended.ensures.asks);
    }

pub returns-clause-served : goal.returns-clause-served
returns-clause-served g c =
    rw c.of-2.ensures (Served-spent _ _ _ _ _ _ c.loop-source.invariant.so_far _ [] (omega (arith, c.len.ensures, c.loop-source.invariant.few, c.loop-source-test.false)) (Consumes-nothing _))
