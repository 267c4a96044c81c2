use Rattle.std.proofs.Common.{◌<◌, length, arith}
use Rattle.shop_lanes.specs.Spots.{lane_at}
use Rattle.shop_lanes.proofs.Spots.{busy_free, inside_of}
use Rattle.shop_lanes.proofs.Turns.{accepts_more, accepts_none, busy_more}
use Rattle.shop_lanes.proofs.accepting.Pool+L+B+B+Serving+B+Report.accept_all.Goals as goal

pub loop-at-init : goal.loop-at-init
loop-at-init g c = record {
  live = c.requires;
  since = λ start total since. since;
  accepts = accepts_none (g.B.Berth, g.L.PolledListener) c.args.self.now;
  busy = λ at none. absurd (omega (arith, none));
  kept = λ fact held. held;
}

pub loop-at-preserved : goal.loop-at-preserved
loop-at-preserved g c =
    let was = c.loop-at.invariant in
    let now = c.accept_at.ensures in
    let inside : c.loop-at.at < length c.loop-at.self.lanes.items = omega (arith, c.loop-at-test.true, c.len-count.ensures, was.accepts.size) in
    record {
      live = now.live;
      since = λ start total since. now.since start total (was.since start total since);
      accepts = accepts_more (g.B.Berth, g.L.PolledListener) c.loop-at.at c.args.self.now c.loop-at.self c.accept_at.new.self inside was.accepts now.accepts;
      busy = busy_more (g.B.Berth, g.L.PolledListener) c.loop-at.at c.loop-at.self c.accept_at.new.self inside now.accepts (now.busy c.if-not-accept_at.false) was.busy;
      kept = λ fact held. now.kept fact (was.kept fact held);
    }

pub returns-then-not-accept_at-clause-since : goal.returns-then-not-accept_at-clause-since
returns-then-not-accept_at-clause-since g c = λ start total since. c.accept_at.ensures.since start total (c.loop-at.invariant.since start total since)

pub returns-then-not-accept_at-clause-accepts : goal.returns-then-not-accept_at-clause-accepts
returns-then-not-accept_at-clause-accepts g c =
    let was = c.loop-at.invariant in
    accepts_more (g.B.Berth, g.L.PolledListener) c.loop-at.at c.args.self.now c.loop-at.self c.accept_at.new.self
    (omega (arith, c.loop-at-test.true, c.len-count.ensures, was.accepts.size)) was.accepts c.accept_at.ensures.accepts

pub returns-clause-awaits : goal.returns-clause-awaits
returns-clause-awaits g c = λ waiting.
    let lanes = c.loop-at.self.lanes.items in
    let at = waiting.1.0 in
    let inside : at < length lanes = inside_of lanes at waiting.1.1 in
    absurd (busy_free (lane_at at lanes) (c.loop-at.invariant.busy at (omega (arith, inside, c.loop-at-test.false, c.len-count.ensures, c.loop-at.invariant.accepts.size))) waiting.1.1)
