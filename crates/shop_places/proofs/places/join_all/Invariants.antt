use Rattle.std.proofs.Common.{ℕ, ◌<◌, get_or}
use Rattle.shop_places.specs.Listening.{seen_by}
use Rattle.shop_places.specs.Places.{Continues}
use Rattle.shop_places.specs.Spots.{IsIdle}
use Rattle.shop_places.proofs.places.join_all.Given as goal

abbrev pub invariant-loop-at : goal.invariant-loop-at
invariant-loop-at g l =
    let seen = seen_by g.L.Listener.links g.L.Listener.faults g.L.Listener.accepted g.L.Listener.dialled in
    record {
      idle : (place : ℕ) (other : _) → place < l.at → IsIdle (get_or l.spots.items place other);
      continues : Continues g.S.Station.serves l.fn.spots.items l.spots.items (seen l.fn.listener) (seen l.listener);
    }
