use Rattle.std.proofs.Common.{◌≡◌, ℕ, List, Bor, map, take}
use Rattle.shop_order.specs.AdminConfirm.{lists_in}
use Rattle.shop_order.proofs.related.lists_in.Given as goal

-- the lists so far are those of the first reads
abbrev pub invariant-loop-read : goal.invariant-loop-read
invariant-loop-read l = map (λ (list : Bor (List (ℕ × ℕ))). list.now) l.lists.items ≡ lists_in (take l.read-index l.bought)
