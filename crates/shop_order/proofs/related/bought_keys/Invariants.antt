use Rattle.std.proofs.Common.{◌≡◌, map, take}
use Rattle.shop_history.specs.declared.keys.Key.TheVariants.{Bought}
use Rattle.shop_order.proofs.related.bought_keys.Given as goal

-- the keys so far are those of the first customers
abbrev pub invariant-loop-customer : goal.invariant-loop-customer
invariant-loop-customer l = l.keys.items ≡ map Bought (take l.customer-index l.customers)
