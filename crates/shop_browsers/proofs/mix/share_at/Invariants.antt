use Rattle.std.proofs.Common.{◌≡◌, length}
use Rattle.shop_browsers.specs.Mixes.{share_at}
use Rattle.shop_browsers.proofs.mix.share_at.Given as goal

abbrev pub invariant-loop-rest : goal.invariant-loop-rest
invariant-loop-rest l = share_at l.shares l.number ≡ share_at l.rest l.left

abbrev pub decreases-loop-rest : goal.decreases-loop-rest
decreases-loop-rest l = length l.rest
