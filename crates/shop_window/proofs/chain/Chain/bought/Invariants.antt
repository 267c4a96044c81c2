use Rattle.std.proofs.Common.{◌≡◌, take}
use Rattle.shop_model.specs.lists.Related.{totals_of}
use Rattle.shop_window.specs.Totals.{add_all}
use Rattle.shop_window.proofs.Walking.{IsWalked, lines_of}
use Rattle.shop_window.proofs.chain.Chain.bought.Given as goal

abbrev pub invariant-loop-left : goal.invariant-loop-left
invariant-loop-left l = record {
  at : IsWalked l.self-inside.kept.items l.customer l.left;
  others : add_all (lines_of l.customer (take l.left l.self-inside.kept.items)) l.totals.items
      ≡ totals_of (lines_of l.customer l.self-inside.kept.items);
}

abbrev pub decreases-loop-left : goal.decreases-loop-left
decreases-loop-left l = l.left
