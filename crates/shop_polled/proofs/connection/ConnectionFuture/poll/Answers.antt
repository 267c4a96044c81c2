use Rattle.shop_polled.proofs.connection.ConnectionFuture.poll.Goals as goal

pub returns-in-Ready-clause-value : goal.returns-in-Ready-clause-value
returns-in-Ready-clause-value g c = c.in-Ready.ensures.value c.finish.result c.finish.ensures.out
