use Rattle.std.proofs.Common.{arith, ap, length, refl}
use Rattle.futures.specs.declared.task.Poll.TheVariants.{Ready}
use Rattle.shop_polled.specs.Lives.{met_of, parts_of}
use Rattle.shop_polled.specs.Meetings.{Meanings, place_of}
use Rattle.shop_polled.proofs.Meetings.{gone_behind, lasts_written, rose_since}
use Rattle.shop_polled.proofs.Polls.{tells-more, tells-whole, tells-cut}
use Rattle.shop_polled.proofs.live.Live.tell_on.Goals as goal

pub poll_rest-polled-requires : goal.poll_rest-polled-requires
poll_rest-polled-requires g c = omega (arith, (rw c.in-Telling.is at c.requires.fits).0, ap length c.reply.ensures)

pub returns-in-Ready-true-clause-live : goal.returns-in-Ready-true-clause-live
returns-in-Ready-true-clause-live g c = record { few = c.requires.few; still = c.requires.still; room = c.requires.room; fits = tt }

pub returns-in-Pending-clause-live : goal.returns-in-Pending-clause-live
returns-in-Pending-clause-live g c = record {
  few = c.requires.few;
  still = c.requires.still;
  room = c.requires.room;
  fits = (omega (arith, c.in-Pending.ensures.within, ap length c.reply.ensures), (rw c.in-Telling.is at c.requires.fits).1);
}

pub returns-in-Pending-clause-met : goal.returns-in-Pending-clause-met
returns-in-Pending-clause-met g c = λ first before.
    let by : Meanings g.row.St.Denot g.row.S.Denot g.row.K.Denot g.row.C.Denot g.row.G.Denot = (g.St.Store, g.S.PolledSource, g.K.PolledSink, g.C.Clock, g.G.Gateway) in
    record {
      met = tells-more (place_of by first) (place_of by (parts_of c.args.self.now)) (met_of c.args.self.now) _ _ _ _ _ c.in-Pending.ensures.onward (rw c.in-Telling.is at before.met) (rw c.reply.ensures at c.in-Pending.ensures.written);
      lasts = lasts_written by first (parts_of c.args.self.now) _ before.lasts _ c.in-Pending.ensures.later;
    }

pub returns-in-Ready-false-clause-met : goal.returns-in-Ready-false-clause-met
returns-in-Ready-false-clause-met g c = λ first before.
    let by : Meanings g.row.St.Denot g.row.S.Denot g.row.K.Denot g.row.C.Denot g.row.G.Denot = (g.St.Store, g.S.PolledSource, g.K.PolledSink, g.C.Clock, g.G.Gateway) in
    let failed = ap (λ b. Ready b) c.in-Ready-false.field-0-test in
    record {
      ends =
          tells-cut (place_of by first) (place_of by (parts_of c.args.self.now)) (met_of c.args.self.now) _ _ _ _ _ c.in-Ready-false.ensures.onward (rw c.in-Telling.is at before.met) (rw c.reply.ensures at c.in-Ready-false.ensures.written)
          (rw c.reply.ensures at (c.in-Ready-false.ensures.cut failed));
      lasts = lasts_written by first (parts_of c.args.self.now) _ before.lasts _ c.in-Ready-false.ensures.later;
      cause = rose_since _ _ _ before.lasts.writes (c.in-Ready-false.ensures.failed failed);
    }

pub returns-in-Ready-true-clause-met : goal.returns-in-Ready-true-clause-met
returns-in-Ready-true-clause-met g c = λ first before.
    let by : Meanings g.row.St.Denot g.row.S.Denot g.row.K.Denot g.row.C.Denot g.row.G.Denot = (g.St.Store, g.S.PolledSource, g.K.PolledSink, g.C.Clock, g.G.Gateway) in
    gone_behind by first _ c.in-Telling.then refl (rw c.in-Telling.is at c.requires.fits).1
    (tells-whole (place_of by first) (place_of by (parts_of c.args.self.now)) (met_of c.args.self.now) _ _ _ _ _ c.in-Ready-true.ensures.onward (rw c.in-Telling.is at before.met) (rw c.reply.ensures at c.in-Ready-true.ensures.written)
    (rw c.reply.ensures at (c.in-Ready-true.ensures.whole (ap (λ b. Ready b) c.in-Ready-true.field-0-test))))
    (lasts_written by first (parts_of c.args.self.now) _ before.lasts _ c.in-Ready-true.ensures.later)
