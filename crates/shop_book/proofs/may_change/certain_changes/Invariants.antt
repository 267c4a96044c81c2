use Rattle.std.proofs.Common.{◌≡◌, ◌+◌, ◌∷◌, length, map, take}
use Rattle.shop_history.specs.declared.keys.Key.TheVariants as key
use Rattle.shop_book.proofs.may_change.certain_changes.Given as goal

-- the keys of the first lines' items come behind those of the cart, the order and the customer
abbrev pub invariant-loop-line : goal.invariant-loop-line
invariant-loop-line l =
    l.keys.items
    ≡ key.Cart l.asked.cart ∷ key.Order (length l.rows.orders.items + 1) ∷ key.LastOrder l.asked.c ∷ map (λ line. key.Item line.0) (take l.line-index l.lines)
