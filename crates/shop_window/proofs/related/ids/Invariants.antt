use Rattle.std.proofs.Common.{◌≡◌, map, take}
use Rattle.shop_window.proofs.related.ids.Given as goal

abbrev pub invariant-loop-sale : goal.invariant-loop-sale
invariant-loop-sale l = l.ids.items ≡ map (λ s. s.id) (take l.sale-index l.sales)
