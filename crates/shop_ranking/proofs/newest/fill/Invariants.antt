use Rattle.shop_ranking.specs.StandingNewest.{later}
use Rattle.shop_ranking.proofs.Filling.{AreFilled}
use Rattle.shop_ranking.proofs.newest.fill.Given as goal

abbrev pub invariant-loop-place : goal.invariant-loop-place
invariant-loop-place l = AreFilled later l.place l.subjects l.books l.lists.items
