use Rattle.std.proofs.Common.{◌≡◌, take}
use Rattle.std.specs.List.{list_any}
use Rattle.shop_model.specs.lists.Related.{has_item}
use Rattle.shop_window.proofs.Walking.{IsWalked, orders_of}
use Rattle.shop_window.proofs.chain.Chain.has.Given as goal

abbrev pub invariant-loop-left : goal.invariant-loop-left
invariant-loop-left l = record {
  at : IsWalked l.self-inside.kept.items l.customer l.left;
  others : list_any (has_item l.item) (orders_of l.customer (take l.left l.self-inside.kept.items))
      ≡ list_any (has_item l.item) (orders_of l.customer l.self-inside.kept.items);
}

abbrev pub decreases-loop-left : goal.decreases-loop-left
decreases-loop-left l = l.left
