use Rattle.std.proofs.Common.{◌-◌, get_or, arith}
use Rattle.std.proofs.lemmas.List.{get_or_default}
use Rattle.std.proofs.lemmas.Option.{slice_get_within}
use Rattle.shop_model.specs.declared.subject.Subject.TheVariants.{Arts}
use Rattle.shop_model.specs.rows.Subjects.{subjects}
use Rattle.shop_ranking.specs.StandingNewest.{later}
use Rattle.shop_ranking.proofs.cited.Order.{later_strict, later_in_order}
use Rattle.shop_ranking.proofs.Filling.{none_filled, IsNext, next_list, next_room, filled_more}
use Rattle.shop_ranking.proofs.newest.fill.Goals as goal
use Rattle.shop_ranking.proofs.newest.fill.Goals.{After-index_mut}

pub loop-place-init : goal.loop-place-init
loop-place-init c = none_filled later c.args.subjects.now c.args.books.now c.args.lists.now.items c.requires.same c.requires.new

pub index_mut-requires : goal.index_mut-requires
index_mut-requires c =
    let low = slice_get_within subjects c.number-number.result (get_or c.args.subjects.now (c.loop-place.place - 1) Arts) c.number-number.ensures in
    omega (arith, low, c.loop-place.invariant.rankings.size, c.loop-place.lists.ok.0)

pub put_in-requires-clause-order : goal.put_in-requires-clause-order
put_in-requires-clause-order c = later_strict.total

next : (c : After-index_mut)
    → IsNext later c.loop-place.place c.args.subjects.now c.args.books.now c.loop-place.lists.items c.number-number.result (get_or c.args.subjects.now (c.loop-place.place - 1) Arts) c.in_ok-book.book c.index_mut.result.now
next c = record {
  filled = c.loop-place.invariant;
  some = omega arith;
  within = omega (arith, c.requires.same);
  same = c.requires.same;
  own_is = get_or_default c.args.subjects.now (c.loop-place.place - 1) Arts _ (omega (arith, c.requires.same));
  is = rw c.in_ok-book.ensures c.index-books-place.is;
  here = c.number-number.ensures;
  list_is = c.index_mut.ensures.value;
}

pub put_in-requires-clause-sorted : goal.put_in-requires-clause-sorted
put_in-requires-clause-sorted c =
    let at = (goal.at.put_in-requires-clause-sorted c).After-index_mut in
    rw (next_list later _ _ _ _ _ _ _ _ (next at)) (later_in_order _).sorted

pub put_in-requires-clause-room : goal.put_in-requires-clause-room
put_in-requires-clause-room c =
    let at = (goal.at.put_in-requires-clause-room c).After-index_mut in
    omega (arith, next_room later _ _ _ _ _ _ _ _ (next at), c.index_mut.result.now.ok.0)

pub loop-place-preserved : goal.loop-place-preserved
loop-place-preserved c =
    let at = (goal.at.loop-place-preserved c).After-index_mut in
    filled_more later _ _ _ _ _ _ _ c.index_mut.result.now c.put_in.new.list (next at) c.put_in.ensures.items c.put_in.ensures.capacity
