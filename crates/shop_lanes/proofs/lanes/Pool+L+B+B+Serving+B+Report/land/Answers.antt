use Rattle.std.proofs.Common.{◌≡◌, ◌∙◌, ◌+◌, ⊎_elim, ℕ, List, ap, arith, length, subst}
use Rattle.shop_places.proofs.cited.Going.{ends}
use Rattle.shop_places.specs.Counts.{counted}
use Rattle.shop_places.specs.Spots.{Going}
use Rattle.shop_places.specs.declared.spot.Spot.{Spot}
use Rattle.shop_lanes.specs.Berths.{IsServing}
use Rattle.shop_lanes.specs.Spots.{busy_lanes}
use Rattle.shop_lanes.proofs.Spots.{are_free, none_busy}
use Rattle.shop_lanes.proofs.lanes.Pool+L+B+B+Serving+B+Report.land.Goals as goal

pub berths_of-requires-clause-free : goal.berths_of-requires-clause-free
berths_of-requires-clause-free g c = are_free g.B.Berth.can_poll c.args.self.lanes.items c.requires.live.here c.requires.over.0

pub returns : goal.returns
returns g c =
    let pool = c.args.self in
    let berths = c.berths_of.result.items in
    let is_served = IsServing g.B.Berth.serves g.B.Berth.gives in
    let busy : busy_lanes pool.lanes.items ≡ 0 = ap busy_lanes c.berths_of.ensures ∙ none_busy g.row.B.Denot g.row.B-Serving.Denot berths in
    let reported : length pool.reports.items ≡ pool.accepted = omega (arith, c.requires.live.count, busy) in (
      λ start total since.
          let many : length since.pairs ≡ pool.accepted + 0 = omega (arith, since.many) in
          record {
            served = pool.accepted;
            done = record {
              pairs = since.pairs;
              visits = since.since.visits;
              are = ends g.B.Berth.serves is_served start.stations berths since.pairs since.since.visits pool.accepted
                  (subst (λ (lanes : List (Spot g.row.B.Denot g.row.B-Serving.Denot)). Going g.B.Berth.serves is_served start.stations lanes since.pairs since.since.visits pool.accepted) c.berths_of.ensures since.since.going);
              many = many;
              links = since.since.links;
              accepted = since.since.accepted ∙ ap (λ (n : ℕ). counted n start.seen.accepted) many;
              dialled = since.since.dialled;
            };
            told = since.told;
            reported = reported;
            all = λ all. ⊎_elim (λ most. omega (arith, most, c.requires.live.fits, since.whole)) (λ other. absurd (other all)) c.requires.over.1;
            fewer = λ other. ⊎_elim (λ all. absurd (other all)) (λ fewer. omega (arith, fewer, since.whole)) c.requires.live.stops;
            later = since.later;
            fault = since.fault;
          },
      λ closed. reported,
    )
