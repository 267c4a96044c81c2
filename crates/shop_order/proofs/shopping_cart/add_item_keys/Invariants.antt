use Rattle.std.proofs.Common.{◌≡◌, ◌++◌, map, take}
use Rattle.shop_history.specs.declared.keys.Key.TheVariants.{Item}
use Rattle.shop_order.proofs.shopping_cart.add_item_keys.Given as goal

-- the keys so far are followed by those of the items of the first lines
abbrev pub invariant-loop-line : goal.invariant-loop-line
invariant-loop-line l = l.keys.items ≡ l.initial.keys.items ++ map (λ line. Item line.0) (take l.line-index l.lines)
