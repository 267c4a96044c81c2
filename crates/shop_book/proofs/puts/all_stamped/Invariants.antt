use Rattle.std.proofs.Common.{◌≡◌, ◌++◌, map}
use Rattle.std.specs.Vec.Iter.{into_iter_items}
use Rattle.shop_book.specs.Puts.{stamped}
use Rattle.shop_book.proofs.puts.all_stamped.Given as goal

-- those that were made, and those that are left
abbrev pub invariant-loop-put : goal.invariant-loop-put
invariant-loop-put l = l.all.items ++ map (stamped l.stamp) (into_iter_items l.put-iterator) ≡ map (stamped l.stamp) l.fn.puts.items
