use Rattle.std.proofs.Common.{refl, subst, sym}
use Rattle.shop_turn.specs.Desks.{DeskValue}
use Rattle.shop_poll.specs.Servings.{EndsLink, PolledMeanings}
use Rattle.shop_poll.specs.declared.serving.Stage.{Stage}
use Rattle.shop_poll.specs.declared.serving.Stage.TheVariants.{Over}
use Rattle.shop_poll.proofs.serving.end_link.Goals as goal

pub returns-in-Live : goal.returns-in-Live
returns-in-Live g c =
    let by : PolledMeanings g.row.S.Denot g.row.K.Denot g.row.C.Denot = (g.S.PolledSource, g.K.PolledSink, g.C.Clock) in
    subst (λ (s : Stage DeskValue g.row.S.Denot g.row.K.Denot g.row.C.Denot). EndsLink by s c.args.end (Over c.finish.result)) (sym c.in-Live.is)
    (c.finish.result, refl, c.finish.ensures.out)
