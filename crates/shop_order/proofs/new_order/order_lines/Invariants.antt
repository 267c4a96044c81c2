use Rattle.std.proofs.Common.{◌≡◌, take}
use Rattle.shop_order.specs.Purchases.{numbered}
use Rattle.shop_order.proofs.new_order.order_lines.Given as goal

-- the lines so far are numbered from 1
abbrev pub invariant-loop-place : goal.invariant-loop-place
invariant-loop-place l = l.lines ≡ numbered 1 (take l.place l.priced)
