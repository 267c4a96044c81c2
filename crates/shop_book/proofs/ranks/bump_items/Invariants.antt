use Rattle.std.proofs.Common.{◌≡◌, ℕ, List, ◌++◌, length, map, take}
use Rattle.shop_model.specs.lists.Related.{units_in_orders}
use Rattle.shop_ranking.specs.StandingBest.{Units}
use Rattle.shop_book.specs.Sales.{Bumps}
use Rattle.shop_book.proofs.ranks.bump_items.Given as goal

-- the units of the first lines' items stand
abbrev pub invariant-loop-line : goal.invariant-loop-line
invariant-loop-line l = record {
  long : length l.best.units ≡ length l.fn.best.units;
  bumps : (was : Units) (done : List ℕ) → Bumps (λ item. units_in_orders item l.sold.kept) was done l.fn.best
      → Bumps (λ item. units_in_orders item l.sold.kept) was (done ++ map (λ l. l.item) (take l.line-index l.line-items)) l.best;
}
