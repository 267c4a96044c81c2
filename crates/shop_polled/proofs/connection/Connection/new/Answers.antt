use Rattle.std.proofs.Common.{arith, ap, length}
use Rattle.shop_message.specs.Gatherings.{Gathering}
use Rattle.shop_polled.specs.Meetings.{Meanings}
use Rattle.shop_polled.proofs.Meetings.{lasts_nothing}
use Rattle.shop_polled.proofs.Polls.{begins}
use Rattle.shop_polled.proofs.connection.Connection.new.Goals as goal

pub returns-clause-can_poll : goal.returns-clause-can_poll
returns-clause-can_poll g c =
    let begun = c.in-Ok.ensures in
    record { few = omega (arith, ap length c.new.ensures.items); still = ap (λ (s : Gathering). s.ended) begun.0; room = begun.1; fits = tt }

pub returns-clause-begun : goal.returns-clause-begun
returns-clause-begun g c =
    let by : Meanings g.row.St.Denot g.row.S.Denot g.row.K.Denot g.row.C.Denot g.row.G.Denot = (g.St.Store, g.S.PolledSource, g.K.PolledSink, g.C.Clock, g.G.Gateway) in
    let begun = c.in-Ok.ensures in
    record { met = rw (begun.0, c.new.ensures.items) (begins _); lasts = lasts_nothing by _ _ c.new.ensures.items }
