use Rattle.std.proofs.Common.{arith}
use Rattle.std.proofs.lemmas.Result.{IfOk-weaker}
use Rattle.shop_app.proofs.cited.Places.{zip_size}
use Rattle.shop_poll.specs.Lanes.{IsStation}
use Rattle.shop_poll.proofs.lanes.lanes_over.Goals as goal

pub new-requires : goal.new-requires
new-requires g c =
    omega (arith, c.requires, zip_size (IsStation g.C.Clock.readings (g.C.Clock.readings c.args.clock.now)) c.args.workers.items c.in_ok-stations.stations.items c.in_ok-stations.ensures)

pub returns-clause-begun : goal.returns-clause-begun
returns-clause-begun g c =
    IfOk-weaker c.new.result _ _ (λ lanes begun. record { stations = c.in_ok-stations.stations.items; are = c.in_ok-stations.ensures; begun = begun }) c.new.ensures.begun
