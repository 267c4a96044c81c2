use Rattle.std.proofs.Common.{◌≢◌, Err, ap, refl, arith}
use Rattle.shop_places.specs.Listening.{seen_by}
use Rattle.shop_places.specs.Outcomes.{ServesOne}
use Rattle.shop_places.specs.declared.serving.Stop.TheVariants.{NotStarted, Memory}
use Rattle.shop_places.proofs.Steps.{no_more, no_more_lost, none_lost, one_more, passed_up}
use Rattle.shop_places.proofs.serving.serve_one.Goals as goal

pub returns-in_err-source-clause-served : goal.returns-in_err-source-clause-served
returns-in_err-source-clause-served g c =
    let seen = seen_by g.L.Listener.links g.L.Listener.faults g.L.Listener.accepted g.L.Listener.dialled in
    let before = seen c.args.listener.now in
    let after = seen c.accepted.new.listener in
    let stop = c.in_err-source.field-0.0 in
    let other : stop ≢ NotStarted = λ is. c.in_err-source.ensures.no_start (ap Err is) in
    passed_up (ServesOne g.S.Station.serves c.args.link c.args.spots.now.items c.args.spots.now.items before after) c.from_residual.result stop c.from_residual.ensures.1
    (no_more g.S.Station.serves stop c.args.spots.now.items before after (none_lost stop other) c.in_err-source.ensures.err)

pub returns-in_default-clause-served : goal.returns-in_default-clause-served
returns-in_default-clause-served g c =
    let seen = seen_by g.L.Listener.links g.L.Listener.faults g.L.Listener.accepted g.L.Listener.dialled in
    no_more_lost g.S.Station.serves c.free_place-at.result c.args.link c.args.spots.now.items c.free_place-at.new.spots.items c.job_at.new.spots.items c.job_at.new.spots.items
    (seen c.args.listener.now) (seen c.accepted.new.listener) (seen c.free_place-at.new.listener) (c.in_ok-source.source, c.in_ok-source.sink)
    c.in_ok-source.ensures.ok c.free_place-at.ensures.continues c.free_place-at.ensures.free c.job_at.ensures.taken Memory (omega arith) refl

pub returns-then-start_at-clause-served : goal.returns-then-start_at-clause-served
returns-then-start_at-clause-served g c =
    let seen = seen_by g.L.Listener.links g.L.Listener.faults g.L.Listener.accepted g.L.Listener.dialled in
    one_more g.S.Station.serves c.free_place-at.result c.args.link c.args.spots.now.items c.free_place-at.new.spots.items c.job_at.new.spots.items c.start_at.new.spots.items
    (seen c.args.listener.now) (seen c.accepted.new.listener) (seen c.free_place-at.new.listener) (c.in_ok-source.source, c.in_ok-source.sink)
    c.in_ok-source.ensures.ok c.free_place-at.ensures.continues c.free_place-at.ensures.free c.job_at.ensures.taken
    c.in-Some.job c.in-Some.ensures.job (c.start_at.ensures.started c.if-start_at.true)

pub returns-else-start_at-clause-served : goal.returns-else-start_at-clause-served
returns-else-start_at-clause-served g c =
    let seen = seen_by g.L.Listener.links g.L.Listener.faults g.L.Listener.accepted g.L.Listener.dialled in
    no_more_lost g.S.Station.serves c.free_place-at.result c.args.link c.args.spots.now.items c.free_place-at.new.spots.items c.job_at.new.spots.items c.start_at.new.spots.items
    (seen c.args.listener.now) (seen c.accepted.new.listener) (seen c.free_place-at.new.listener) (c.in_ok-source.source, c.in_ok-source.sink)
    c.in_ok-source.ensures.ok c.free_place-at.ensures.continues c.free_place-at.ensures.free c.job_at.ensures.taken NotStarted refl (c.start_at.ensures.kept c.if-start_at.false)
