use Rattle.shop_engine.proofs.OneOrder.{one_order}
use Rattle.shop_engine.proofs.laws.one_order_for_a_cart.Goals as goal

pub returns : goal.returns
returns c = one_order
