use Rattle.std.proofs.Common.{◌≡◌, ◌+◌, length, ap, ◌∙◌, arith}
use Rattle.shop_ranking.proofs.cited.Order.{is_in_order}
use Rattle.shop_ranking.proofs.cited.Putting.{length_in_order}
use Rattle.shop_search.specs.Titles.{by_titled}
use Rattle.shop_search.proofs.TitledLemmas.{by_titled_strict, put_more, put_length}
use Rattle.shop_search.proofs.titled.put_all.Goals as goal

pub put_in-requires-clause-order : goal.put_in-requires-clause-order
put_in-requires-clause-order c = by_titled_strict.total

pub put_in-requires-clause-sorted : goal.put_in-requires-clause-sorted
put_in-requires-clause-sorted c =
    rw (c.loop-item.invariant.order c.requires.order.0 c.requires.order.1) (is_in_order by_titled by_titled_strict.total _).sorted

pub put_in-requires-clause-room : goal.put_in-requires-clause-room
put_in-requires-clause-room c =
    let before = c.requires.order.0 in
    let first : length c.args.list.now.items ≡ length before = ap length c.requires.order.1 ∙ length_in_order by_titled before in
    let now : length c.loop-item.list.items ≡ length before + c.loop-item.item-index =
    put_length before c.args.items.now c.loop-item.list.items c.loop-item.item-index (omega arith) (c.loop-item.invariant.order before c.requires.order.1) in
    omega (arith, first, now, c.loop-item.list.ok.0, c.args.list.now.ok.0, c.loop-item.invariant.capacity, c.requires.room)

pub loop-item-preserved : goal.loop-item-preserved
loop-item-preserved c = record {
  order = λ before is.
      c.put_in.ensures.items
      ∙ put_more before c.args.items.now c.loop-item.list.items c.loop-item.item-index c.item-item.result c.again.result (omega arith) c.item-item.is
      c.again.ensures (c.loop-item.invariant.order before is);
  capacity = c.put_in.ensures.capacity ∙ c.loop-item.invariant.capacity;
}
