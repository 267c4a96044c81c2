use Rattle.std.proofs.Common.{◌∙◌, ◌∷◌, ◌<◌, [], ap, arith, inl, length, length-append, refl, set, sym}
use Rattle.std.proofs.lemmas.List.{get_or_default}
use Rattle.shop_places.specs.declared.spot.Spot.TheVariants.{Free, Gone}
use Rattle.shop_lanes.specs.Spots.{busy_one}
use Rattle.shop_lanes.proofs.Pools.{live_set, since_completes, since_turns_on}
use Rattle.shop_lanes.proofs.Turns.{completes, has_ended, set_as}
use Rattle.shop_lanes.proofs.polling.Pool+L+B+B+Serving+B+Report.poll_at.Goals as goal

pub free_lane-requires-clause-ended : goal.free_lane-requires-clause-ended
free_lane-requires-clause-ended g c = has_ended g.B.Berth c.index_mut-lane.result.now c.poll_lane.new.lane (c.poll_lane.ensures.ended c.if-poll_lane.true)

pub returns-then-poll_lane-clause-live : goal.returns-then-poll_lane-clause-live
returns-then-poll_lane-clause-live g c =
    let lanes = c.args.self.now.lanes.items in
    let freed = c.free_lane.ensures.freed in
    let done = completes g.B.Berth c.index_mut-lane.result.now c.poll_lane.new.lane (freed.link, freed.done) (c.poll_lane.ensures.ended c.if-poll_lane.true) freed.completes in
    let is = get_or_default lanes c.args.at Gone c.index_mut-lane.result.now c.requires.inside ∙ sym c.index_mut-lane.ensures.value ∙ done.1 in
    live_set g.B.Berth.can_poll c.args.self.now _ c.requires.live c.args.at (Free freed.done.berth) c.requires.inside (ap (set lanes c.args.at) freed.free) tt
    (omega (
      arith,
      ap length freed.told,
      length-append c.args.self.now.reports.items ((g.B.Berth.caller freed.done.berth, freed.done.report) ∷ []),
      ap busy_one is,
    ))
    c.free_lane.ensures.room refl refl refl refl

pub returns-then-poll_lane-clause-since : goal.returns-then-poll_lane-clause-since
returns-then-poll_lane-clause-since g c = λ start total since.
    let lanes = c.args.self.now.lanes.items in
    let freed = c.free_lane.ensures.freed in
    let done = completes g.B.Berth c.index_mut-lane.result.now c.poll_lane.new.lane (freed.link, freed.done) (c.poll_lane.ensures.ended c.if-poll_lane.true) freed.completes in
    let is = get_or_default lanes c.args.at Gone c.index_mut-lane.result.now c.requires.inside ∙ sym c.index_mut-lane.ensures.value ∙ done.1 in
    since_completes (g.B.Berth, g.L.PolledListener) start total c.args.self.now since c.args.at c.requires.inside _ refl refl refl
    freed.link done.0 freed.done is done.2 (ap (set lanes c.args.at) freed.free) freed.told freed.back

pub returns-then-poll_lane-clause-turned : goal.returns-then-poll_lane-clause-turned
returns-then-poll_lane-clause-turned g c =
    let lanes = c.args.self.now.lanes.items in
    let freed = c.free_lane.ensures.freed in
    let done = completes g.B.Berth c.index_mut-lane.result.now c.poll_lane.new.lane (freed.link, freed.done) (c.poll_lane.ensures.ended c.if-poll_lane.true) freed.completes in
    let is = get_or_default lanes c.args.at Gone c.index_mut-lane.result.now c.requires.inside ∙ sym c.index_mut-lane.ensures.value ∙ done.1 in
    let is_new = set_as lanes (set lanes c.args.at c.free_lane.new.lane) c.args.at c.free_lane.new.lane c.requires.inside refl in
    let more : length c.args.self.now.reports.items < length c.free_lane.new.reports.items =
    omega (arith, ap length freed.told, length-append c.args.self.now.reports.items ((g.B.Berth.caller freed.done.berth, freed.done.report) ∷ [])) in
    record {
      only = ap (set lanes c.args.at) (sym is_new);
      turned = rw (is, is_new ∙ freed.free) more;
      reports = record { more = omega (arith, more); listener = inl more; accepted = refl; links = refl; ended = refl };
    }

pub returns-else-poll_lane-clause-since : goal.returns-else-poll_lane-clause-since
returns-else-poll_lane-clause-since g c = λ start total since.
    let is = get_or_default c.args.self.now.lanes.items c.args.at Gone c.index_mut-lane.result.now c.requires.inside ∙ sym c.index_mut-lane.ensures.value in
    since_turns_on (g.B.Berth, g.L.PolledListener) start total c.args.self.now since c.args.at c.requires.inside _ refl refl refl refl refl c.poll_lane.new.cx
    c.index_mut-lane.result.now c.poll_lane.new.lane is (c.poll_lane.ensures.turned c.if-poll_lane.false) refl
