use Rattle.std.proofs.Common.{◌≡◌, map, take}
use Rattle.shop_model.specs.lists.Related.{sold_of, last}
use Rattle.shop_book.proofs.lists.window_of.Given as goal

-- the window has the latest of the first orders
abbrev pub invariant-loop-order : goal.invariant-loop-order
invariant-loop-order g l = record {
  items : l.window.items ≡ l.items;
  kept : l.window.kept ≡ last g.row.N (map sold_of (take l.order-index l.orders));
}
