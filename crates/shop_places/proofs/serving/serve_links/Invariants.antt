use Rattle.std.proofs.Common.{◌≡◌, ◌≤◌}
use Rattle.shop_places.specs.Counts.{counted}
use Rattle.shop_places.specs.Listening.{seen_by}
use Rattle.shop_places.specs.Outcomes.{AreStarted}
use Rattle.shop_places.proofs.serving.serve_links.Given as goal

abbrev pub invariant-loop-before : goal.invariant-loop-before
invariant-loop-before g l =
    let seen = seen_by g.L.Listener.links g.L.Listener.faults g.L.Listener.accepted g.L.Listener.dialled in
    record {
      started : AreStarted g.S.Station.serves l.before l.fn.spots.items l.spots.items (seen l.fn.listener) (seen l.listener);
      starts : l.spawner.starts ≡ counted l.before l.fn.spawner.starts;
      later : l.fn.spawner.faults ≤ l.spawner.faults;
    }
