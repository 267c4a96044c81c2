use Rattle.std.proofs.Common.{◌≡◌, ◌∙◌, [], ap, arith, inl, length, map, refl, sym}
use lib.ListN.{length-map}
use Rattle.std.proofs.lemmas.List.Elements.{All-same}
use Rattle.shop_places.specs.Spots.{put_free}
use Rattle.shop_lanes.specs.Berths.{IsServing}
use Rattle.shop_lanes.specs.Pools.{seen_polled, told_of}
use Rattle.shop_lanes.specs.Spots.{IsHere, busy_lanes}
use Rattle.shop_lanes.proofs.Pools.{no_fault, since_from}
use Rattle.shop_lanes.proofs.Since.{since_start}
use Rattle.shop_lanes.proofs.Spots.{all_here, none_busy}
use Rattle.shop_lanes.proofs.lanes.Lanes+L+B+B+Serving+B+Report.new.Goals as goal

pub returns-clause-can_poll : goal.returns-clause-can_poll
returns-clause-can_poll g c =
    let is = c.in_ok-lanes.ensures in
    let size : length c.in_ok-lanes.lanes.items ≡ length c.args.berths.items = omega (arith, ap length is, length-map c.args.berths.items (put_free {T = g.row.B-Serving.Denot})) in
    record {
      here = All-same (IsHere g.B.Berth.can_poll) c.in_ok-lanes.lanes.items (map put_free c.args.berths.items) is (all_here g.B.Berth.can_poll c.args.berths.items);
      some = omega (arith, size, c.requires);
      count = omega (arith, ap length c.new.ensures.items, ap busy_lanes is, none_busy g.row.B.Denot g.row.B-Serving.Denot c.args.berths.items);
      room = omega arith;
      fits = omega arith;
      unused = c.in_ok-room.ensures.items;
      spare = omega (arith, size, c.in_ok-room.ensures.len, c.in_ok-room.ensures.exact, c.len.ensures);
      stops = inl refl;
    }

pub returns-clause-begun : goal.returns-clause-begun
returns-clause-begun g c =
    let seen = seen_polled (g.B.Berth, g.L.PolledListener) c.args.listener in
    let since = since_start g.B.Berth.serves (IsServing g.B.Berth.serves g.B.Berth.gives) (record { stations = c.args.berths.items; seen = seen }) in
    since_from (g.B.Berth, g.L.PolledListener) (record { stations = c.args.berths.items; seen = seen }) c.args.links [] 0 (map put_free c.args.berths.items) seen since.0
    _ refl c.in_ok-lanes.ensures refl refl (c.new.ensures.items ∙ ap (map (told_of (g.B.Berth, g.L.PolledListener))) (sym since.1)) refl (omega arith) (λ is. no_fault is)
