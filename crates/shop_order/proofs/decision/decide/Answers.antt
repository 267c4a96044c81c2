use Rattle.shop_order.proofs.ChargingLemmas.{asks_once}
use Rattle.shop_order.proofs.decision.decide.Goals as goal

pub returns-in-Approved-clause-asks : goal.returns-in-Approved-clause-asks
returns-in-Approved-clause-asks g c = asks_once c.args.paying.now.asked.now c.args.paying.now.call _ _ _ _ _ _ (rw c.get.ensures at c.charge_of-charge.ensures) c.ask_gateway.ensures.asks

pub returns-in-Denied-clause-asks : goal.returns-in-Denied-clause-asks
returns-in-Denied-clause-asks g c = asks_once c.args.paying.now.asked.now c.args.paying.now.call _ _ _ _ _ _ (rw c.get.ensures at c.charge_of-charge.ensures) c.ask_gateway.ensures.asks

pub returns-in-Failed-clause-asks : goal.returns-in-Failed-clause-asks
returns-in-Failed-clause-asks g c = asks_once c.args.paying.now.asked.now c.args.paying.now.call _ _ _ _ _ _ (rw c.get.ensures at c.charge_of-charge.ensures) c.ask_gateway.ensures.asks

pub returns-clause-asks : goal.returns-clause-asks
returns-clause-asks g c = asks_once c.args.paying.now.asked.now c.args.paying.now.call _ _ _ _ _ _ (rw c.get.ensures at c.charge_of-charge.ensures) c.ask_gateway.ensures.asks
