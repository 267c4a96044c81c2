use Rattle.std.proofs.Common.{rules, refl, sym, ◌∙◌, subst, arith, IsSome, List, None}
use Rattle.shop_attempt.proofs.cited.Marks.{keeps_self}
use Rattle.shop_engine.specs.declared.tries.Outcome.{Outcome}
use Rattle.shop_engine.specs.Failures.{RoseBy, failures_as}
use Rattle.shop_cache.specs.declared.lines.ListLine.{ListLine}
use Rattle.shop_engine.specs.Tries.{IsOutcome, LeavesMarkOf}
use Rattle.shop_engine.proofs.Conflicts.{met_more, none_met}
use Rattle.shop_engine.proofs.Outcomes.{behind_all, behind_conflict, behind_denial, busy_is, denial_decides, denial_kept, failed_is, in_a_try, listed_is, settled_counts, settled_is}
use Rattle.shop_engine.proofs.tries.try_all.Goals as goal

pub loop-tried-init : goal.loop-tried-init
loop-tried-init g c = record {
  so_far = none_met _ _ c.args.job.now _ c.requires.tax refl refl c.new-conflicts.ensures;
  marks = keeps_self _ _;
  later = omega arith;
}

pub loop-tried-preserved : goal.loop-tried-preserved
loop-tried-preserved g c = record {
  so_far = met_more _ _ _ _ _ _ _ _ _ c.in-Ok.ensures.ok c.loop-tried.invariant.so_far c.in-Again.ensures.tried;
  marks = search rules;
  later = omega (arith, c.loop-tried.invariant.later, c.in-Again.ensures.later);
}

pub returns-in-Settled-clause-answer : goal.returns-in-Settled-clause-answer
returns-in-Settled-clause-answer g c = settled_is _ _ _ _ _ _ c.loop-tried-test.true c.loop-tried.invariant.so_far _ _ _ c.in-Settled.ensures.tried

pub returns-in-Settled-clause-failures : goal.returns-in-Settled-clause-failures
returns-in-Settled-clause-failures g c =
    let none = settled_counts _ _ _ _ _ _ c.loop-tried-test.true c.loop-tried.invariant.so_far _ _ _ c.in-Settled.ensures.tried in
    omega (arith, none, c.loop-tried.invariant.later, c.in-Settled.ensures.later)

pub returns-in-Listed-clause-answer : goal.returns-in-Listed-clause-answer
returns-in-Listed-clause-answer g c = listed_is _ _ _ _ _ _ c.loop-tried-test.true c.loop-tried.invariant.so_far _ _ _ c.in-Listed.ensures.tried

-- the answer that is kept is the denial

pub denied-requires : goal.denied-requires
denied-requires g c =
    let denial = denial_kept _ _ _ _ _ _ c.loop-tried-test.true c.loop-tried.invariant.so_far _ _ _ c.in-Denied.ensures.tried in
    subst IsSome (sym denial.1) refl

pub returns-in-Denied-clause-answer : goal.returns-in-Denied-clause-answer
returns-in-Denied-clause-answer g c =
    let denial = denial_kept _ _ _ _ _ _ c.loop-tried-test.true c.loop-tried.invariant.so_far _ _ _ c.in-Denied.ensures.tried in
    denial_decides _ _ _ _ _ c.denied.result c.denied.ensures denial.1 (IsOutcome _ _ c.args.job.now _) denial.2

pub returns-in-Denied-clause-memory : goal.returns-in-Denied-clause-memory
returns-in-Denied-clause-memory g c none = behind_denial _ _ _ _ _ _ c.loop-tried-test.true c.loop-tried.invariant.so_far c.requires.caller _ _ _ c.in-Denied.ensures.tried

pub returns-in-Denied-clause-mark : goal.returns-in-Denied-clause-mark
returns-in-Denied-clause-mark g c =
    let denial = denial_kept _ _ _ _ _ _ c.loop-tried-test.true c.loop-tried.invariant.so_far _ _ _ c.in-Denied.ensures.tried in
    denial_decides _ _ _ _ _ c.denied.result c.denied.ensures denial.1
    (LeavesMarkOf (g.St.Store.marked c.try_once.new.store) (g.St.Store.seat c.try_once.new.store).seen c.args.job.now.ask.moment)
    (λ some. absurd (let no : IsSome {T = List ListLine} None = some in cc))

pub returns-in-Denied-clause-failures : goal.returns-in-Denied-clause-failures
returns-in-Denied-clause-failures g c =
    let denial = denial_kept _ _ _ _ _ _ c.loop-tried-test.true c.loop-tried.invariant.so_far _ _ _ c.in-Denied.ensures.tried in
    denial_decides _ _ _ _ _ c.denied.result c.denied.ensures denial.1
    (λ (o : Outcome). RoseBy (g.G.Gateway.faults c.args.gateway.now) (failures_as o.kind) (g.G.Gateway.faults c.try_once.new.gateway))
    (omega (arith, c.loop-tried.invariant.later, c.in-Denied.ensures.later))

-- memory

pub returns-in_default-clause-memory : goal.returns-in_default-clause-memory
returns-in_default-clause-memory g c none = behind_conflict _ _ _ _ _ _ c.loop-tried-test.true c.loop-tried.invariant.so_far c.requires.caller _ _ c.in-Again.ensures.tried

pub returns-in-Memory-clause-memory : goal.returns-in-Memory-clause-memory
returns-in-Memory-clause-memory g c none = in_a_try _ _ _ _ _ _ c.loop-tried-test.true c.loop-tried.invariant.so_far c.requires.caller _ c.in-Memory.ensures.tried

pub returns-in_default-refusal_reply-clause-memory : goal.returns-in_default-refusal_reply-clause-memory
returns-in_default-refusal_reply-clause-memory g c none =
    behind_all _ _ c.args.job.now _ _ (omega (arith, c.loop-tried-test.false, c.loop-tried.auto.tried-end)) c.requires.caller c.loop-tried.invariant.so_far

-- the ends

pub returns-in-Failed-clause-answer : goal.returns-in-Failed-clause-answer
returns-in-Failed-clause-answer g c = failed_is _ _ _ _ _ _ c.loop-tried-test.true c.loop-tried.invariant.so_far _ c.in-Failed.ensures.tried

pub returns-clause-answer : goal.returns-clause-answer
returns-clause-answer g c =
    let all = c.loop-tried.invariant.so_far in
    busy_is _ _ _ _ _ _ (omega (arith, c.loop-tried-test.false, c.loop-tried.auto.tried-end)) (all.stays.follows.caller ∙ c.requires.caller) all c.in-Ok-refusal_reply.ensures
