use Rattle.std.proofs.Common.{arith}
use Rattle.shop_places.specs.Listening.{seen_by}
use Rattle.shop_places.proofs.Steps.{all_done, all_free, all_stopped, none_done, same_size}
use Rattle.shop_places.proofs.serving.serve.Goals as goal

pub returns-in_default-clause-served : goal.returns-in_default-clause-served
returns-in_default-clause-served g c =
    none_done g.S.Station.serves c.args.links c.args.stations.items (seen_by g.L.Listener.links g.L.Listener.faults g.L.Listener.accepted g.L.Listener.dialled c.args.listener.now)

pub returns-in_default-with_capacity-clause-served :
    goal.returns-in_default-with_capacity-clause-served
returns-in_default-with_capacity-clause-served g c =
    none_done g.S.Station.serves c.args.links c.args.stations.items (seen_by g.L.Listener.links g.L.Listener.faults g.L.Listener.accepted g.L.Listener.dialled c.args.listener.now)

pub returns-in_default-places_of-clause-served : goal.returns-in_default-places_of-clause-served
returns-in_default-places_of-clause-served g c =
    none_done g.S.Station.serves c.args.links c.args.stations.items (seen_by g.L.Listener.links g.L.Listener.faults g.L.Listener.accepted g.L.Listener.dialled c.args.listener.now)

pub stations_of-requires-clause-free : goal.stations_of-requires-clause-free
stations_of-requires-clause-free g c =
    let seen = seen_by g.L.Listener.links g.L.Listener.faults g.L.Listener.accepted g.L.Listener.dialled in
    all_free g.S.Station.serves c.args.links c.args.stations.items c.in-Ok-places_of.spots.items c.serve_links-served.new.spots.items c.join_all.new.spots.items
    (seen c.args.listener.now) (seen c.serve_links-served.new.listener) (seen c.join_all.new.listener)
    c.in-Ok-places_of.ensures c.join_all.ensures.continues c.join_all.ensures.idle c.in-Ok-served.ensures.served

pub stations_of-requires-clause-room : goal.stations_of-requires-clause-room
stations_of-requires-clause-room g c =
    let seen = seen_by g.L.Listener.links g.L.Listener.faults g.L.Listener.accepted g.L.Listener.dialled in
    let size =
    same_size g.S.Station.serves c.args.links c.args.stations.items c.in-Ok-places_of.spots.items c.serve_links-served.new.spots.items c.join_all.new.spots.items
    (seen c.args.listener.now) (seen c.serve_links-served.new.listener) (seen c.join_all.new.listener)
    c.in-Ok-places_of.ensures c.join_all.ensures.continues c.join_all.ensures.idle c.in-Ok-served.ensures.served in
    omega (arith, size, c.in-Ok-with_capacity.ensures.len, c.in-Ok-with_capacity.ensures.capacity, c.len-count.ensures)

pub returns-in-Ok-served-clause-served : goal.returns-in-Ok-served-clause-served
returns-in-Ok-served-clause-served g c =
    let seen = seen_by g.L.Listener.links g.L.Listener.faults g.L.Listener.accepted g.L.Listener.dialled in
    all_done g.S.Station.serves c.args.links c.args.stations.items c.in-Ok-places_of.spots.items c.serve_links-served.new.spots.items c.join_all.new.spots.items
    (seen c.args.listener.now) (seen c.serve_links-served.new.listener) (seen c.join_all.new.listener)
    c.in-Ok-places_of.ensures c.join_all.ensures.continues c.join_all.ensures.idle c.in-Ok-served.ensures.served c.stations_of.result.items c.stations_of.ensures

pub returns-in-Err-clause-served : goal.returns-in-Err-clause-served
returns-in-Err-clause-served g c =
    let seen = seen_by g.L.Listener.links g.L.Listener.faults g.L.Listener.accepted g.L.Listener.dialled in
    all_stopped g.S.Station.serves c.args.links c.args.stations.items c.in-Ok-places_of.spots.items c.serve_links-served.new.spots.items c.join_all.new.spots.items
    (seen c.args.listener.now) (seen c.serve_links-served.new.listener) (seen c.join_all.new.listener)
    c.in-Ok-places_of.ensures c.join_all.ensures.continues c.join_all.ensures.idle c.in-Err.stop c.in-Err.ensures.served
