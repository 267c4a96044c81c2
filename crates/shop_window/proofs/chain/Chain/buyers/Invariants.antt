use Rattle.std.proofs.Common.{◌≡◌, map, drop}
use Rattle.shop_model.specs.lists.Related.{buyers_in}
use Rattle.shop_window.proofs.chain.Chain.buyers.Given as goal

abbrev pub invariant-loop-place : goal.invariant-loop-place
invariant-loop-place l = l.customers.items ≡ buyers_in (map (λ e. e.sold) (drop l.place l.self-inside.kept.items)) l.item
