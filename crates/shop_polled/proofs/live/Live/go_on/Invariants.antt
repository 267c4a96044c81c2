use Rattle.std.proofs.Common.{◌≡◌, ◌+◌, ◌-◌, ◌≤◌, length}
use Rattle.futures.specs.Task.{Keeps}
use Rattle.shop_polled.specs.Lives.{CanGoOn, IsMetBy, IsReading}
use Rattle.shop_polled.specs.Meetings.{Parts}
use Rattle.shop_polled.proofs.live.Live.go_on.Given as goal

abbrev pub invariant-loop-self : goal.invariant-loop-self
invariant-loop-self g l = record {
  live : CanGoOn l.self;
  reading : IsReading l.self;
  met : (first : Parts g.row.St.Denot g.row.S.Denot g.row.K.Denot g.row.C.Denot g.row.G.Denot)
      → IsMetBy (g.St.Store, g.S.PolledSource, g.K.PolledSink, g.C.Clock, g.G.Gateway) first l.fn.self
      → IsMetBy (g.St.Store, g.S.PolledSource, g.K.PolledSink, g.C.Clock, g.G.Gateway) first l.self;
  enough : l.enough ≡ length l.fn.self.points.items + 16;
  within : length l.self.points.items ≤ l.enough;
  waits : g.S.PolledSource.waits l.fn.self.source ≤ g.S.PolledSource.waits l.self.source;
  puts_off : g.K.PolledSink.waits l.fn.self.sink ≤ g.K.PolledSink.waits l.self.sink;
  kept : Keeps l.fn.cx l.cx;
}

abbrev pub decreases-loop-self : goal.decreases-loop-self
decreases-loop-self g l = l.enough - length l.self.points.items
