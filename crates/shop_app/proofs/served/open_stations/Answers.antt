use Rattle.std.proofs.Common.{◌≡◌, ◌+◌, length, arith, subst}
use Rattle.shop_places.specs.Listening.{Listening, listening}
use Rattle.shop_app.specs.Serving.{Dials, dials}
use Rattle.shop_app.proofs.Dialled.{listens_by}
use Rattle.shop_app.proofs.cited.NewShops.{rest_new, rest_size}
use Rattle.shop_app.proofs.served.open_stations.Goals as goal

pub stations_of-requires-clause-desks : goal.stations_of-requires-clause-desks
stations_of-requires-clause-desks g c = rest_new c.args.asked.now.shop _ _ _ c.in-Some.own c.in-Ok.ensures.desks c.in-Some.ensures.items

pub stations_of-requires-clause-few : goal.stations_of-requires-clause-few
stations_of-requires-clause-few g c =
    omega (arith, rest_size c.args.asked.now.shop _ _ _ c.in-Some.own c.in-Ok.ensures.desks c.in-Some.ensures.items, c.requires.workers)

pub returns-clause-listens : goal.returns-clause-listens
returns-clause-listens g c =
    let seen : g.row.L.Denot → Listening g.row.I.Denot g.row.O.Denot = listening g.L.Listener in
    let size : length c.pop.new.self.items + 1 ≡ c.args.asked.now.workers + 1 = rest_size c.args.asked.now.shop _ _ _ c.in-Some.own c.in-Ok.ensures.desks c.in-Some.ensures.items in
    let workers : length c.pop.new.self.items ≡ c.args.asked.now.workers = omega (arith, size) in
    listens_by (dials c.args.asked.now.gateway c.args.asked.now.workers) (seen c.args.listener.now) (seen c.open.new.self) (seen c.stations_of.new.listener)
    c.open.ensures.links c.open.ensures.cause.later c.open.ensures.accepted c.open.ensures.dialled
    (subst (λ n. Dials (dials c.args.asked.now.gateway n) (seen c.open.new.self) (seen c.stations_of.new.listener)) workers c.in_ok-stations.ensures.dials)
