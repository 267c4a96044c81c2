use Rattle.std.proofs.Common.{◌≡◌, take}
use Rattle.shop_model.specs.population.Population.{rows}
use Rattle.shop_model.specs.rows.Sound.{last_of}
use Rattle.shop_populate.proofs.last_orders.last_orders_table.Given as goal

abbrev pub invariant-loop-order : goal.invariant-loop-order
invariant-loop-order l = l.lasts.items ≡ rows (last_of (take l.order-index l.orders)) l.customers
