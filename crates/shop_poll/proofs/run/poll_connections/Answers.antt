use Rattle.std.proofs.Common.{Option, refl, sym, subst}
use Rattle.shop_tasks.specs.Serves as serves
use Rattle.shop_app.specs.Serving.{Listens}
use Rattle.shop_poll.specs.Runs.{TellsPolled, seen}
use Rattle.shop_poll.specs.Servings.{serves_by}
use Rattle.shop_poll.proofs.Runs.{all_one_shop, some_workers, told_landed}
use Rattle.shop_poll.proofs.run.poll_connections.Goals as goal

pub run_lanes-requires : goal.run_lanes-requires
run_lanes-requires g c = some_workers c.args.asked.now c.in-Ok.own c.in-Ok.workers.items c.requires c.in-Ok.ensures

pub told_by-requires : goal.told_by-requires
told_by-requires g c =
    let by : serves.Meanings g.row.C.Denot g.row.S.Denot g.row.O.Denot = serves_by (g.S.PolledSource, g.O.PolledSink, g.C.Clock) in
    let landed = c.in-Ok-run_lanes.ensures.landed in
    let listens : Listens 0 (seen g.L.PolledListener c.args.listener) (seen g.L.PolledListener c.open.new.self) =
    record { links = c.open.ensures.links; later = c.open.ensures.cause.later; accepted = c.open.ensures.accepted; dialled = refl } in
    all_one_shop g.L.PolledListener by c.args.asked.now (g.C.Clock.readings c.args.clock.now) c.requires c.in-Ok.own c.in-Ok.workers.items landed.stations c.in-Ok-run_lanes.landed.berths.items
    c.in-Ok.ensures landed.are c.args.listener c.open.new.self c.in-Ok-run_lanes.landed.listener listens landed.landing.served landed.landing.done

pub returns-in-Ok-run_lanes-clause-told : goal.returns-in-Ok-run_lanes-clause-told
returns-in-Ok-run_lanes-clause-told g c =
    let by : serves.Meanings g.row.C.Denot g.row.S.Denot g.row.O.Denot = serves_by (g.S.PolledSource, g.O.PolledSink, g.C.Clock) in
    let landed = c.in-Ok-run_lanes.ensures.landed in
    let listens : Listens 0 (seen g.L.PolledListener c.args.listener) (seen g.L.PolledListener c.open.new.self) =
    record { links = c.open.ensures.links; later = c.open.ensures.cause.later; accepted = c.open.ensures.accepted; dialled = refl } in
    subst (λ (back : Option g.row.L.Denot). TellsPolled (g.U.Runner.faults, g.L.PolledListener, (g.S.PolledSource, g.O.PolledSink, g.C.Clock)) c.args.asked.now c.args.clock.now
    (c.args.runner.now, c.args.listener) (c.run_lanes.new.runner, back) c.told_by.result.0) (sym c.told_by.ensures.back)
    (told_landed g.L.PolledListener by c.args.asked.now (g.C.Clock.readings c.args.clock.now) c.requires c.in-Ok.own c.in-Ok.workers.items landed.stations c.in-Ok-run_lanes.landed.berths.items
    c.in-Ok.ensures landed.are c.args.listener c.open.new.self c.in-Ok-run_lanes.landed.listener listens landed.landing.served landed.landing.done
    c.in-Ok-run_lanes.landed.ended c.told_by.result.0 (g.U.Runner.faults c.args.runner.now) (g.U.Runner.faults c.run_lanes.new.runner) c.told_by.ensures.told landed.landing.all landed.landing.fault)
