use Rattle.shop_places.specs.Listening.{seen_by}
use Rattle.shop_places.proofs.Steps.{settles}
use Rattle.shop_places.proofs.places.join_at.Goals as goal

pub returns : goal.returns
returns g c =
    let seen = seen_by g.L.Listener.links g.L.Listener.faults g.L.Listener.accepted g.L.Listener.dialled in
    record {
      settled = settles g.S.Station.serves c.args.at c.args.spots.now.items c.put.new.spots.items (seen c.args.listener.now) (seen c.idle-spot.new.listener)
          c.put-spot.result c.idle-spot.result c.requires c.put-spot.ensures.value (rw c.put-spot.ensures.after at c.put.ensures.after) c.idle-spot.ensures;
    }
