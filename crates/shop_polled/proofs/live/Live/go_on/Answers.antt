use Rattle.std.proofs.Common.{arith, ap, length}
use Rattle.futures.specs.declared.task.Poll.TheVariants.{Ready}
use Rattle.shop_polled.proofs.live.Live.go_on.Goals as goal

pub returns-in-Ready-Some-clause-met : goal.returns-in-Ready-Some-clause-met
returns-in-Ready-Some-clause-met g c = λ first before. rw c.in-Ready-Some.field-0-is at (c.in-Ready-Some.ensures.met first before)

pub returns-in-Pending-clause-met : goal.returns-in-Pending-clause-met
returns-in-Pending-clause-met g c = λ first before. c.in-Pending.ensures.met first before

pub loop-self-init : goal.loop-self-init
loop-self-init g c = record {
  live = c.tell_on.ensures.live;
  reading = c.in-Ready-None.ensures.goes_on (ap (λ x. Ready x) c.in-Ready-None.field-0-is);
  met = λ first before. rw c.in-Ready-None.field-0-is at (c.in-Ready-None.ensures.met first before);
  enough = omega (arith, c.len-enough.ensures, ap length c.tell_on.ensures.points);
  within = omega (arith, c.len-enough.ensures);
  waits = omega (arith, ap g.S.PolledSource.waits c.tell_on.ensures.source);
  puts_off = c.tell_on.ensures.waits;
  kept = c.tell_on.ensures.kept;
}

pub returns-in-Ready-Some-read_on-clause-met : goal.returns-in-Ready-Some-read_on-clause-met
returns-in-Ready-Some-read_on-clause-met g c = λ first before.
    rw c.in-Ready-Some-read_on.field-0-is at (c.in-Ready-Some-read_on.ensures.met first (c.loop-self.invariant.met first before))

pub returns-in-Pending-read_on-clause-met : goal.returns-in-Pending-read_on-clause-met
returns-in-Pending-read_on-clause-met g c = λ first before. c.in-Pending-read_on.ensures.met first (c.loop-self.invariant.met first before)

pub returns-in-Ready-Some-tell_on-clause-met : goal.returns-in-Ready-Some-tell_on-clause-met
returns-in-Ready-Some-tell_on-clause-met g c = λ first before.
    rw c.in-Ready-Some-tell_on.field-0-is at
    (c.in-Ready-Some-tell_on.ensures.met first (rw c.in-Ready-None-read_on.field-0-is at (c.in-Ready-None-read_on.ensures.met first (c.loop-self.invariant.met first before))))

pub returns-in-Pending-tell_on-clause-met : goal.returns-in-Pending-tell_on-clause-met
returns-in-Pending-tell_on-clause-met g c = λ first before.
    c.in-Pending-tell_on.ensures.met first (rw c.in-Ready-None-read_on.field-0-is at (c.in-Ready-None-read_on.ensures.met first (c.loop-self.invariant.met first before)))

pub loop-self-preserved : goal.loop-self-preserved
loop-self-preserved g c = record {
  live = c.tell_on-in-loop-self.ensures.live;
  reading = c.in-Ready-None-tell_on.ensures.goes_on (ap (λ x. Ready x) c.in-Ready-None-tell_on.field-0-is);
  met = λ first before.
      rw c.in-Ready-None-tell_on.field-0-is at
      (c.in-Ready-None-tell_on.ensures.met first (rw c.in-Ready-None-read_on.field-0-is at (c.in-Ready-None-read_on.ensures.met first (c.loop-self.invariant.met first before))));
  enough = c.loop-self.invariant.enough;
  within =
      omega (
        arith,
        c.len.ensures,
        c.loop-self-test.true,
        ap length c.tell_on-in-loop-self.ensures.points,
        c.in-Ready-None-read_on.ensures.more (ap (λ x. Ready x) c.in-Ready-None-read_on.field-0-is),
      );
  waits = omega (arith, c.loop-self.invariant.waits, c.read_on.ensures.waits, ap g.S.PolledSource.waits c.tell_on-in-loop-self.ensures.source);
  puts_off = omega (arith, c.loop-self.invariant.puts_off, ap g.K.PolledSink.waits c.read_on.ensures.sink, c.tell_on-in-loop-self.ensures.waits);
  kept = λ fact held. c.tell_on-in-loop-self.ensures.kept fact (c.read_on.ensures.kept fact (c.loop-self.invariant.kept fact held));
}

pub returns-clause-met : goal.returns-clause-met
returns-clause-met g c = λ first before. rw c.yield_now.ensures.pending (c.loop-self.invariant.met first before)
