use Rattle.std.proofs.Common.{take}
use Rattle.shop_pricing.specs.declared.filling.Filled.TheVariants.{Done}
use Rattle.shop_pricing.specs.Fills.{AreSet}
use Rattle.shop_pricing.proofs.filling.set_all.Given as goal

abbrev pub invariant-loop-item : goal.invariant-loop-item
invariant-loop-item l = AreSet l.items (take l.item-index l.sets) l.initial.lines l.lines Done
