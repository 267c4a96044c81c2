use Rattle.std.proofs.Common.{arith}
use Rattle.shop_app.proofs.cited.NewShops.{rest_new, rest_opens, rest_size}
use Rattle.shop_poll.proofs.workers.open_workers.Goals as goal

pub workers_of-requires-clause-desks : goal.workers_of-requires-clause-desks
workers_of-requires-clause-desks g c = rest_new c.args.asked.now.shop _ _ _ c.in-Some.own c.in_ok-desks.ensures.desks c.in-Some.ensures.items

pub workers_of-requires-clause-few : goal.workers_of-requires-clause-few
workers_of-requires-clause-few g c =
    omega (arith, rest_size c.args.asked.now.shop _ _ _ c.in-Some.own c.in_ok-desks.ensures.desks c.in-Some.ensures.items, c.requires.lanes)

pub returns : goal.returns
returns g c = record {
  desks = _;
  opens = rest_opens c.args.asked.now.shop _ _ _ c.in-Some.own c.in_ok-desks.ensures.desks c.in-Some.ensures.items;
  are = c.in_ok-workers.ensures;
}
