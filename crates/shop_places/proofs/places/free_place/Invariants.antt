use Rattle.shop_places.specs.Listening.{seen_by}
use Rattle.shop_places.specs.Places.{Continues}
use Rattle.shop_places.proofs.places.free_place.Given as goal

abbrev pub invariant-loop : goal.invariant-loop
invariant-loop g l =
    let seen = seen_by g.L.Listener.links g.L.Listener.faults g.L.Listener.accepted g.L.Listener.dialled in
    record {
      can : (goal.iterator-loop g).can_next l.iterator';
      finite : (goal.iterator-loop g).is_finite l.iterator';
      continues : Continues g.S.Station.serves l.fn.spots.items l.spots.items (seen l.fn.listener) (seen l.listener);
    }
