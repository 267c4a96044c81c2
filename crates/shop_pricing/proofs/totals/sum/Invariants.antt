use Rattle.std.proofs.Common.{◌≡◌, take}
use Rattle.shop_pricing.specs.Totals.{sum_of}
use Rattle.shop_pricing.proofs.totals.sum.Given as goal

abbrev pub invariant-loop-line : goal.invariant-loop-line
invariant-loop-line l = l.sum ≡ sum_of (take l.line-index l.lines)
