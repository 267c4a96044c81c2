use Rattle.std.proofs.Common.{sym, subst}
use Rattle.shop_turn.specs.Desks.{DeskValue}
use Rattle.shop_poll.specs.Servings.{GivesAs, IsPutOffAs, PolledMeanings}
use Rattle.shop_poll.specs.declared.serving.Stage.{Stage}
use Rattle.shop_poll.specs.declared.serving.Stage.TheVariants.{Live}
use Rattle.shop_poll.proofs.serving.PolledStationBerth.poll.Goals as goal

pub returns-clause-same : goal.returns-clause-same
returns-clause-same g c done leaves =
    let by : PolledMeanings g.row.S.Denot g.row.K.Denot g.row.C.Denot = (g.S.PolledSource, g.K.PolledSink, g.C.Clock) in
    let over = c.end_link.ensures in
    subst (λ (s : Stage DeskValue g.row.S.Denot g.row.K.Denot g.row.C.Denot). GivesAs by s done) (sym c.in-Live.is)
    (over.0, c.in-Ready.ensures.value over.0 over.2, subst (λ (s : Stage DeskValue g.row.S.Denot g.row.K.Denot g.row.C.Denot). GivesAs by s done) over.1 leaves)

pub returns-in-Pending-clause-same : goal.returns-in-Pending-clause-same
returns-in-Pending-clause-same g c done (finished, gives, leaves) =
    let by : PolledMeanings g.row.S.Denot g.row.K.Denot g.row.C.Denot = (g.S.PolledSource, g.K.PolledSink, g.C.Clock) in
    subst (λ (s : Stage DeskValue g.row.S.Denot g.row.K.Denot g.row.C.Denot). GivesAs by s done) (sym c.in-Live.is)
    (finished, c.in-Pending.ensures.same finished gives, leaves)

pub returns-in-Pending-clause-waited : goal.returns-in-Pending-clause-waited
returns-in-Pending-clause-waited g c =
    subst (λ (s : Stage DeskValue g.row.S.Denot g.row.K.Denot g.row.C.Denot). IsPutOffAs g.S.PolledSource.waits g.K.PolledSink.waits s (Live c.poll_end.new.self)) (sym c.in-Live.is)
    (c.poll_end.new.cx, c.in-Pending.ensures.waited)
