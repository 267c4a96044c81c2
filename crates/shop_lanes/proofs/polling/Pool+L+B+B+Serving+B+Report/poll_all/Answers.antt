use Rattle.std.proofs.Common.{◌<◌, length, arith}
use Rattle.shop_lanes.proofs.Turns.{turns_all, turns_more, turns_none}
use Rattle.shop_lanes.proofs.polling.Pool+L+B+B+Serving+B+Report.poll_all.Goals as goal

pub loop-at-init : goal.loop-at-init
loop-at-init g c = record {
  live = c.requires;
  since = λ start total since. since;
  turns = turns_none (g.B.Berth, g.L.PolledListener) c.args.self.now c.args.cx.now;
  kept = λ fact held. held;
}

pub loop-at-preserved : goal.loop-at-preserved
loop-at-preserved g c =
    let was = c.loop-at.invariant in
    let now = c.poll_at.ensures in
    let inside : c.loop-at.at < length c.loop-at.self.lanes.items = omega (arith, c.loop-at-test.true, c.len-count.ensures, was.turns.size) in
    record {
      live = now.live;
      since = λ start total since. now.since start total (was.since start total since);
      turns = turns_more (g.B.Berth, g.L.PolledListener) c.loop-at.at c.args.self.now c.loop-at.self c.poll_at.new.self c.loop-at.cx c.poll_at.new.cx inside was.turns now.kept now.turned;
      kept = λ fact held. now.kept fact (was.kept fact held);
    }

pub returns-clause-turned : goal.returns-clause-turned
returns-clause-turned g c =
    turns_all (g.B.Berth, g.L.PolledListener) c.loop-at.at c.args.self.now c.loop-at.self c.loop-at.cx (omega (arith, c.loop-at-test.false, c.len-count.ensures)) c.loop-at.invariant.turns
