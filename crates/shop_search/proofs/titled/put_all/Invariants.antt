use Rattle.std.proofs.Common.{◌≡◌, ◌++◌, List, take, vec_capacity}
use Rattle.shop_model.specs.lists.Rankings.{in_order}
use Rattle.shop_search.specs.Titles.{TitledItem, by_titled}
use Rattle.shop_search.proofs.titled.put_all.Given as goal

abbrev pub invariant-loop-item : goal.invariant-loop-item
invariant-loop-item l = record {
  order : (before : List TitledItem) → l.fn.list.items ≡ in_order by_titled before → l.list.items ≡ in_order by_titled (before ++ take l.item-index l.items);
  capacity : vec_capacity l.list ≡ vec_capacity l.fn.list;
}
