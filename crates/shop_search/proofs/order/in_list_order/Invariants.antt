use Rattle.std.proofs.Common.{◌≡◌, map, take}
use Rattle.shop_model.specs.lists.Catalogues.{naming}
use Rattle.shop_search.proofs.order.in_list_order.Given as goal

abbrev pub invariant-loop-item : goal.invariant-loop-item
invariant-loop-item l = l.ranked.items ≡ map naming (take l.item-index l.items)
