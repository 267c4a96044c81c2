use Rattle.std.proofs.Common.{arith, ap}
use Rattle.futures.specs.declared.task.Poll.TheVariants.{Ready}
use Rattle.shop_polled.specs.Lives.{met_of, parts_of}
use Rattle.shop_polled.specs.Meetings.{Meanings, place_of}
use Rattle.shop_polled.proofs.Meetings.{lasts_read, rose_since}
use Rattle.shop_polled.proofs.Polls.{reads-more, reads-message, reads-refused, ends-spent, ends-closed, ends-cut, ends-broken, ends-memory}
use Rattle.shop_polled.proofs.live.Live.read_on.Goals as goal

pub returns-then-len-eq-ANSWERS-clause-met : goal.returns-then-len-eq-ANSWERS-clause-met
returns-then-len-eq-ANSWERS-clause-met g c = λ first before.
    let by : Meanings g.row.St.Denot g.row.S.Denot g.row.K.Denot g.row.C.Denot g.row.G.Denot = (g.St.Store, g.S.PolledSource, g.K.PolledSink, g.C.Clock, g.G.Gateway) in
    record {
      ends = ends-spent (place_of by first) (place_of by (parts_of c.args.self.now)) (met_of c.args.self.now) (rw c.requires.reading at before.met) (omega (arith, c.len.ensures, c.if-len-eq-ANSWERS.true));
      lasts = before.lasts;
      cause = tt;
    }

pub returns-in-Pending-clause-met : goal.returns-in-Pending-clause-met
returns-in-Pending-clause-met g c = λ first before.
    let by : Meanings g.row.St.Denot g.row.S.Denot g.row.K.Denot g.row.C.Denot g.row.G.Denot = (g.St.Store, g.S.PolledSource, g.K.PolledSink, g.C.Clock, g.G.Gateway) in
    record {
      met = rw c.requires.reading (reads-more (place_of by first) (place_of by (parts_of c.args.self.now)) (met_of c.args.self.now) (rw c.requires.reading at before.met) _ c.poll_message.new.gather c.in-Pending.ensures.gathers);
      lasts = lasts_read by first (parts_of c.args.self.now) _ before.lasts _ c.in-Pending.ensures.later;
    }

pub returns-in-Message-clause-met : goal.returns-in-Message-clause-met
returns-in-Message-clause-met g c = λ first before.
    let by : Meanings g.row.St.Denot g.row.S.Denot g.row.K.Denot g.row.C.Denot g.row.G.Denot = (g.St.Store, g.S.PolledSource, g.K.PolledSink, g.C.Clock, g.G.Gateway) in
    let reads = rw c.requires.reading at before.met in
    c.answer.ensures.answered first (record {
      base = reads.left;
      unread = reads.unread;
      so_far = reads.so_far;
      gives = reads-message (place_of by first) (place_of by (parts_of c.args.self.now)) (met_of c.args.self.now) reads _ c.poll_message.new.gather _ (rw c.in-Message.is at c.in-Ready.ensures.next);
      lasts = lasts_read by first (parts_of c.args.self.now) _ before.lasts _ c.in-Ready.ensures.later;
    })

pub returns-in-Bad-clause-met : goal.returns-in-Bad-clause-met
returns-in-Bad-clause-met g c = λ first before.
    let by : Meanings g.row.St.Denot g.row.S.Denot g.row.K.Denot g.row.C.Denot g.row.G.Denot = (g.St.Store, g.S.PolledSource, g.K.PolledSink, g.C.Clock, g.G.Gateway) in
    let reads = rw c.requires.reading at before.met in
    c.refuse.ensures.refused first (record {
      base = reads.left;
      unread = reads.unread;
      so_far = reads.so_far;
      stops = reads-refused (place_of by first) (place_of by (parts_of c.args.self.now)) (met_of c.args.self.now) reads _ c.poll_message.new.gather _ (rw c.in-Bad.is at c.in-Ready.ensures.next);
      lasts = lasts_read by first (parts_of c.args.self.now) _ before.lasts _ c.in-Ready.ensures.later;
    })

pub returns-in-End-clause-met : goal.returns-in-End-clause-met
returns-in-End-clause-met g c = λ first before.
    let by : Meanings g.row.St.Denot g.row.S.Denot g.row.K.Denot g.row.C.Denot g.row.G.Denot = (g.St.Store, g.S.PolledSource, g.K.PolledSink, g.C.Clock, g.G.Gateway) in
    record {
      ends = ends-closed (place_of by first) (place_of by (parts_of c.args.self.now)) (met_of c.args.self.now) (rw c.requires.reading at before.met) _ c.poll_message.new.gather (omega (arith, c.requires.live.few, c.len.ensures, c.if-len-eq-ANSWERS.false)) (rw c.in-End.is at c.in-Ready.ensures.next);
      lasts = lasts_read by first (parts_of c.args.self.now) _ before.lasts _ c.in-Ready.ensures.later;
      cause = tt;
    }

pub returns-in-Cut-clause-met : goal.returns-in-Cut-clause-met
returns-in-Cut-clause-met g c = λ first before.
    let by : Meanings g.row.St.Denot g.row.S.Denot g.row.K.Denot g.row.C.Denot g.row.G.Denot = (g.St.Store, g.S.PolledSource, g.K.PolledSink, g.C.Clock, g.G.Gateway) in
    record {
      ends = ends-cut (place_of by first) (place_of by (parts_of c.args.self.now)) (met_of c.args.self.now) (rw c.requires.reading at before.met) _ c.poll_message.new.gather (omega (arith, c.requires.live.few, c.len.ensures, c.if-len-eq-ANSWERS.false)) (rw c.in-Cut.is at c.in-Ready.ensures.next);
      lasts = lasts_read by first (parts_of c.args.self.now) _ before.lasts _ c.in-Ready.ensures.later;
      cause = tt;
    }

pub returns-in-ReadFault-clause-met : goal.returns-in-ReadFault-clause-met
returns-in-ReadFault-clause-met g c = λ first before.
    let by : Meanings g.row.St.Denot g.row.S.Denot g.row.K.Denot g.row.C.Denot g.row.G.Denot = (g.St.Store, g.S.PolledSource, g.K.PolledSink, g.C.Clock, g.G.Gateway) in
    record {
      ends = ends-broken (place_of by first) (place_of by (parts_of c.args.self.now)) (met_of c.args.self.now) (rw c.requires.reading at before.met) _ c.poll_message.new.gather (omega (arith, c.requires.live.few, c.len.ensures, c.if-len-eq-ANSWERS.false)) (rw c.in-ReadFault.is at c.in-Ready.ensures.next);
      lasts = lasts_read by first (parts_of c.args.self.now) _ before.lasts _ c.in-Ready.ensures.later;
      cause = rose_since _ _ _ before.lasts.reads (c.in-Ready.ensures.failed (ap (λ n. Ready n) c.in-ReadFault.is));
    }

pub returns-in-Memory-clause-met : goal.returns-in-Memory-clause-met
returns-in-Memory-clause-met g c = λ first before.
    let by : Meanings g.row.St.Denot g.row.S.Denot g.row.K.Denot g.row.C.Denot g.row.G.Denot = (g.St.Store, g.S.PolledSource, g.K.PolledSink, g.C.Clock, g.G.Gateway) in
    let gone = rw c.in-Memory.is at c.in-Ready.ensures.next in
    record {
      ends = ends-memory (place_of by first) (place_of by (parts_of c.args.self.now)) (met_of c.args.self.now) (rw c.requires.reading at before.met) _ c.poll_message.new.gather (omega (arith, c.requires.live.few, c.len.ensures, c.if-len-eq-ANSWERS.false)) gone.0 gone.1;
      lasts = lasts_read by first (parts_of c.args.self.now) _ before.lasts _ c.in-Ready.ensures.later;
      cause = tt;
    }
