use Rattle.std.proofs.Common.{◌≡◌, take}
use Rattle.shop_pricing.proofs.lines.Lines.of.Given as goal

abbrev pub invariant-loop-item : goal.invariant-loop-item
invariant-loop-item l = l.quantities.entries ≡ take l.item-index l.cart.lines
