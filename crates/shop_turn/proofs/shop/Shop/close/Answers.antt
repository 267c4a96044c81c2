use Rattle.std.proofs.Common.{◌≡◌, ◌∷◌, [], length, sym, ap, ◌∙◌, append_assoc, arith}
use Rattle.std.proofs.lemmas.List.{append-nil, nil_from_length}
use Rattle.std.specs.Vec.Iter.{into_iter_items}
use Rattle.std.proofs.lemmas.List.Elements.{All-push}
use Rattle.shop_turn.specs.Joined.{IsSeated}
use Rattle.shop_turn.proofs.Shops.{joined_seat, seated, closes, closes_along, found_along}
use Rattle.shop_turn.proofs.shop.Shop.close.Goals as goal

pub loop-desk-preserved : goal.loop-desk-preserved
loop-desk-preserved g c =
    let at = c.loop-desk in
    let x = c.in-Some.desk in
    let i = c.desk.invariant in
    let j = c.join_at.ensures in
    let steps : into_iter_items at.desk-iterator ≡ x ∷ into_iter_items c.next.new.self = c.in-Some.ensures.steps.0 in (
      tt,
      tt,
      append_assoc at.yielded (x ∷ []) _ ∙ rw (← steps) at.invariant.2,
      (let was = at.invariant.3 in let gone = c.in-Some.ensures.steps.1 in let short = ap length steps in omega arith),
      record { table = j.0 ∙ at.invariant.4.table; words = at.invariant.4.words; slots = at.invariant.4.slots; few = at.invariant.4.few },
      joined_seat _ _ c.first.inside.seat.me.0 c.desk.inside.seat.me.0 at.yielded x _ _ at.invariant.5 j.2 c.desk.view_is i.ready.number_is i.single,
      All-push IsSeated at.yielded x at.invariant.6 (seated _ _ c.desk.inside.seat.me.0 x c.desk.view_is i.ready.one i.long),
    )

pub returns : goal.returns
returns g c =
    let at = c.loop-desk in
    let none = c.in-None.ensures.steps in
    let i = c.first.invariant in
    let empty : into_iter_items at.desk-iterator ≡ [] = nil_from_length _ (sym at.invariant.3 ∙ none.0) in
    let all = sym (append-nil at.yielded) ∙ rw empty at at.invariant.2 ∙ c.into_iter-desk-iterator.ensures.into_iter_gives.0 in
    closes_along all (closes _ _ c.first.inside.seat.me.0 c.args.first at.yielded c.close_at.result c.first.view_is i.ready.number_is i.ready.one i.long at.invariant.6 (found_along at.invariant.5 c.close_at.ensures))
