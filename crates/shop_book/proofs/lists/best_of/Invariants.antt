use Rattle.std.proofs.Common.{◌≡◌, length, map, take}
use Rattle.shop_model.specs.lists.Related.{units_in_orders}
use Rattle.shop_book.proofs.lists.best_of.Given as goal

-- the units of the first items stand
abbrev pub invariant-loop-item : goal.invariant-loop-item
invariant-loop-item l = record {
  subjects : l.best.subjects ≡ map (λ i. i.subject) l.items;
  long : length l.best.units ≡ length l.items;
  units : take l.item-index l.best.units ≡ map (λ i. units_in_orders i.id l.sold.kept) (take l.item-index l.items);
}
