use Rattle.std.proofs.Common.{◌≡◌, ◌∙◌, ◌∷◌, [], length, append_assoc, append-nil, sym, ap, arith}
use Rattle.std.specs.Vec.Iter.{into_iter_items}
use Rattle.std.proofs.lemmas.List.{map-append, nil_from_length}
use Rattle.std.proofs.lemmas.List.Elements.{All-head, All-rest}
use Rattle.shop_places.specs.Spots.{IsFree, put_free}
use Rattle.shop_lanes.proofs.lanes.berths_of.Goals as goal

pub berth_of-requires : goal.berth_of-requires
berth_of-requires g c =
    All-head IsFree c.in-Some.lane (into_iter_items c.next.new.self) (rw c.in-Some.ensures.steps.0 at c.loop-lane.invariant.free)

pub loop-lane-preserved : goal.loop-lane-preserved
loop-lane-preserved g c =
    let was = c.loop-lane.invariant in
    let steps : into_iter_items c.loop-lane.lane-iterator ≡ c.in-Some.lane ∷ into_iter_items c.next.new.self = c.in-Some.ensures.steps.0 in
    record {
      can = tt;
      finite = tt;
      split = append_assoc c.loop-lane.yielded (c.in-Some.lane ∷ []) _ ∙ rw (← steps) was.split;
      size = omega (arith, was.size, c.in-Some.ensures.steps.1, ap length steps);
      free = All-rest IsFree c.in-Some.lane (into_iter_items c.next.new.self) _ steps was.free;
      made = rw (was.made, c.berth_of.ensures, c.push_reserved.ensures.items) (sym (map-append put_free c.loop-lane.berths.items (c.berth_of.result ∷ [])));
      room = omega (arith, was.room, ap length steps, c.push_reserved.ensures.len, c.push_reserved.ensures.capacity);
    }

pub returns : goal.returns
returns g c =
    let was = c.loop-lane.invariant in
    let empty : into_iter_items c.loop-lane.lane-iterator ≡ [] = nil_from_length _ (sym was.size ∙ c.in-None.ensures.steps.0) in
    sym c.into_iter-lane-iterator.ensures.into_iter_gives.0 ∙ sym (rw empty at was.split) ∙ append-nil c.loop-lane.yielded ∙ was.made
