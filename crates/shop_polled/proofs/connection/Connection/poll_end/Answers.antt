use Rattle.std.proofs.Common.{◌≡◌, Some}
use Rattle.futures.specs.Poll.{IfReady, OnPending}
use Rattle.futures.specs.declared.task.Poll.{Poll}
use Rattle.futures.specs.declared.task.Poll.TheVariants.{Ready, Pending}
use Rattle.shop_engine.specs.declared.report.Ended.{Ended}
use Rattle.shop_polled.specs.declared.connection.Connection.{Connection}
use Rattle.shop_polled.specs.declared.live.Live.{Live}
use Rattle.shop_polled.specs.Connections.{EndsIn, GoesOn}
use Rattle.shop_polled.specs.Lives.{Ends}
use Rattle.shop_polled.specs.Meetings.{Meanings}
use Rattle.shop_polled.proofs.connection.Connection.poll_end.Goals as goal

module _ {St S K C G : Type 0} (by : Meanings St S K C G) (old : Connection St S K C G) (live new : Live St S K C G) (is : old.live ≡ Some live) where
  at_end : (result : Poll Ended) → Ends by live new result → IfReady result (EndsIn by old (record { live = Some new }))
  at_end (Ready end) ends = λ finished out. rw is (λ first before. out first (ends first before))
  at_end Pending ends = tt

  put_off : (result : Poll Ended) → Ends by live new result → OnPending result (GoesOn by old (record { live = Some new }))
  put_off (Ready end) ends = tt
  put_off Pending ends = λ finished gives. rw is (λ first before. gives first (ends first before))

pub returns-clause-value : goal.returns-clause-value
returns-clause-value g c = at_end (g.St.Store, g.S.PolledSource, g.K.PolledSink, g.C.Clock, g.G.Gateway) c.args.self.now c.in-Some.live c.go_on.new.self c.in-Some.is c.go_on.result c.go_on.ensures.met

pub returns-clause-same : goal.returns-clause-same
returns-clause-same g c = put_off (g.St.Store, g.S.PolledSource, g.K.PolledSink, g.C.Clock, g.G.Gateway) c.args.self.now c.in-Some.live c.go_on.new.self c.in-Some.is c.go_on.result c.go_on.ensures.met
