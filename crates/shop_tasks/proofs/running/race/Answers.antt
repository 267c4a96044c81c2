use Rattle.std.proofs.Common.{◌∷◌, List, arith, subst}
use Rattle.shop_turn.specs.Desks.{DeskValue}
use Rattle.shop_turn.specs.Shops.{Closes}
use Rattle.shop_tasks.proofs.Tasks.{all_back, all_one_shop, raced_all, ran_as, starts_all, tickets_fit}
use Rattle.shop_tasks.proofs.running.race.Goals as goal

pub join_all-driven-requires-clause-room : goal.join_all-driven-requires-clause-room
join_all-driven-requires-clause-room g c κs within =
    omega (arith, tickets_fit g.C.Clock.readings _ _ _ _ _ c.start_all-started.ensures, c.in-Ok-with_capacity.ensures.len, c.in-Ok-with_capacity.ensures.capacity, c.len-count.ensures)

pub close-requires : goal.close-requires
close-requires g c = all_one_shop g.C.Clock.readings _ _ _ _ _ _ _ c.start_all-started.ensures c.join_all-driven.ensures c.args.own c.requires

pub returns : goal.returns
returns g c =
    let readings = g.C.Clock.readings in
    let starts = c.start_all-started.ensures in
    let joins = c.join_all-driven.ensures in
    rw c.ended.ensures
    (ran_as readings c.args.own _ _ _ c.close.result c.start_all-started.result c.join_all-driven.result
    (λ started driven.
    let raced = raced_all readings _ _ _ _ _ _ _ started driven starts joins in
    record {
      raced = raced.0;
      kept = raced.1;
      closes = subst (λ (desks : List DeskValue). Closes c.args.own.origin (c.args.own ∷ desks) c.close.result) raced.2 c.close.ensures;
      starts = starts_all readings _ _ _ _ _ _ _ started driven starts joins;
    })
    (λ stopped. record {
      failed = starts.failed stopped;
      desks = _;
      back = all_back readings _ _ _ _ _ _ _ starts joins;
      closes = c.close.ensures;
    }))
