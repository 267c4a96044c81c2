use Rattle.std.proofs.Common.{ap}
use Rattle.shop_engine.specs.Workers.{WorkerState}
use Rattle.shop_engine.proofs.cited.SoFar.{still_standing}
use Rattle.shop_engine.specs.Failures.{failures}
use Rattle.shop_polled.specs.Lives.{parts_of}
use Rattle.shop_polled.specs.Meetings.{Meanings, place_of}
use Rattle.shop_polled.proofs.Meetings.{lasts_refused, none_failed}
use Rattle.shop_polled.proofs.Polls.{ends-untold, tells-refusal}
use Rattle.shop_polled.proofs.live.Live.refuse.Goals as goal

pub returns-in_default-clause-refused : goal.returns-in_default-clause-refused
returns-in_default-clause-refused g c = λ first meets.
    let by : Meanings g.row.St.Denot g.row.S.Denot g.row.K.Denot g.row.C.Denot g.row.G.Denot = (g.St.Store, g.S.PolledSource, g.K.PolledSink, g.C.Clock, g.G.Gateway) in
    let called = c.in_default.ensures in
    let same = still_standing g.St.Store.seat c.args.self.now.worker c.refuse_next.new.worker _ _ called.worker in
    record {
      ends = ends-untold (place_of by first) (place_of by (parts_of c.args.self.now)) _ same _ c.args.refusal _ _ c.args.self.now.gather meets.so_far c.requires.few meets.stops _ called.memory;
      lasts =
          lasts_refused by first (parts_of c.args.self.now) _ meets.lasts _ _ (ap (λ (w : WorkerState g.row.St.Denot). w.caller) called.worker)
          (ap (λ (w : WorkerState g.row.St.Denot). w.store) called.worker) called.fresh (ap failures called.memory);
      cause = tt;
    }

pub returns-clause-refused : goal.returns-clause-refused
returns-clause-refused g c = λ first meets.
    let by : Meanings g.row.St.Denot g.row.S.Denot g.row.K.Denot g.row.C.Denot g.row.G.Denot = (g.St.Store, g.S.PolledSource, g.K.PolledSink, g.C.Clock, g.G.Gateway) in
    let called = c.in-Ok.ensures in
    let same = still_standing g.St.Store.seat c.args.self.now.worker c.refuse_next.new.worker _ _ called.worker in
    record {
      met = rw c.status.ensures (tells-refusal (place_of by first) (place_of by (parts_of c.args.self.now)) _ same _ c.args.refusal _ _ c.args.self.now.gather meets.so_far c.requires.few meets.stops _ called.refused);
      lasts =
          lasts_refused by first (parts_of c.args.self.now) _ meets.lasts _ _ (ap (λ (w : WorkerState g.row.St.Denot). w.caller) called.worker)
          (ap (λ (w : WorkerState g.row.St.Denot). w.store) called.worker) called.fresh (none_failed _ _ called.refused.added);
    }
