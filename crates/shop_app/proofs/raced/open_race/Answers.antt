use Rattle.std.proofs.Common.{arith}
use Rattle.shop_app.proofs.cited.NewShops.{rest_new, rest_opens, rest_size}
use Rattle.shop_app.proofs.raced.open_race.Goals as goal

pub tasks_of-requires-clause-desks : goal.tasks_of-requires-clause-desks
tasks_of-requires-clause-desks g c = rest_new c.args.asked.now.shop _ _ _ c.in-Some.own c.in_ok-desks.ensures.desks c.in-Some.ensures.items

pub tasks_of-requires-clause-few : goal.tasks_of-requires-clause-few
tasks_of-requires-clause-few g c =
    omega (arith, rest_size c.args.asked.now.shop _ _ _ c.in-Some.own c.in_ok-desks.ensures.desks c.in-Some.ensures.items, c.requires.workers)

pub returns : goal.returns
returns g c = record {
  desks = _;
  opens = rest_opens c.args.asked.now.shop _ _ _ c.in-Some.own c.in_ok-desks.ensures.desks c.in-Some.ensures.items;
  tasks_are = c.in_ok-tasks.ensures;
}
