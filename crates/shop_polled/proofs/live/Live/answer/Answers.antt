use Rattle.shop_polled.specs.Lives.{parts_of}
use Rattle.shop_polled.specs.Meetings.{Meanings, place_of}
use Rattle.shop_polled.proofs.Meetings.{lasts_answered}
use Rattle.shop_polled.proofs.Polls.{ends-unanswered, tells-answer}
use Rattle.shop_polled.proofs.live.Live.answer.Goals as goal

pub returns-in_default-clause-answered : goal.returns-in_default-clause-answered
returns-in_default-clause-answered g c = λ first takes.
    let by : Meanings g.row.St.Denot g.row.S.Denot g.row.K.Denot g.row.C.Denot g.row.G.Denot = (g.St.Store, g.S.PolledSource, g.K.PolledSink, g.C.Clock, g.G.Gateway) in
    let called = c.in_default.ensures in
    record {
      ends = ends-unanswered (place_of by first) (place_of by (parts_of c.args.self.now)) _ _ c.args.message _ _ c.args.self.now.gather takes.so_far c.requires.few takes.gives _ called.unanswered called.memory;
      lasts = lasts_answered by first (parts_of c.args.self.now) _ takes.lasts _ _ _ _ called.caller called.marks called.fresh called.failures called.asks;
      cause = tt;
    }

pub returns-clause-answered : goal.returns-clause-answered
returns-clause-answered g c = λ first takes.
    let by : Meanings g.row.St.Denot g.row.S.Denot g.row.K.Denot g.row.C.Denot g.row.G.Denot = (g.St.Store, g.S.PolledSource, g.K.PolledSink, g.C.Clock, g.G.Gateway) in
    let called = c.in-Ok.ensures in
    record {
      met = rw (c.reuse.ensures, c.behind-behind.ensures) (tells-answer (place_of by first) (place_of by (parts_of c.args.self.now)) _ _ c.args.message _ _ c.args.self.now.gather takes.so_far c.requires.few takes.gives _ called.answered);
      lasts = lasts_answered by first (parts_of c.args.self.now) _ takes.lasts _ _ _ _ called.caller called.marks called.fresh called.failures called.asks;
    }
