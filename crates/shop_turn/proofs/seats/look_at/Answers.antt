use Rattle.std.proofs.Common.{[], ap, ◌∙◌, arith, subst}
use Rattle.shop_book.specs.Books.{IsBook}
use Rattle.shop_turn.specs.declared.rule.View.{View}
use Rattle.shop_turn.specs.Views.{giving}
use Rattle.shop_turn.specs.Plays.{AtTable, book_at}
use Rattle.shop_turn.proofs.SeatLemmas.{looks_inside}
use Rattle.shop_turn.proofs.Founds.{found_by, looked_as, inside_keeps, inside_book, inside_after}
use Rattle.shop_turn.proofs.seats.look_at.Goals as goal

pub load-requires : goal.load-requires
load-requires g c = let at = c.requires.at in let r = c.requires.ready in let e = c.take_share-share.ensures in
    (e.0.0 ∙ at.table, (let a = at.words in omega arith), looks_inside _ _ _ _ 0 c.args.number c.take_share-share.result c.args.seat.now.me.0 _ e.0.2 r.live r.number_is r.one)

pub leave-requires-clause-inside : goal.leave-requires-clause-inside
leave-requires-clause-inside g c = let e = c.take_share-share.ensures in inside_after c.args.number _ 0 _ c.args.seat.now.me _ _ c.requires.ready e.0.2 e.1 c.load.ensures.2.2

pub returns : goal.returns
returns g c =
    let e = c.take_share-share.ensures in let l = c.load.ensures in let a = c.leave.ensures in
    let v = c.args.seat.now.me.0 in let share = c.take_share-share.result in let x = c.take_share-share.new.seat.me.0 in
    let kept = inside_keeps share v c.take_share-share.new.seat.me _ e.0.2 in let is = inside_book share v c.take_share-share.new.seat.me _ e.0.2 e.1 in
    let k = subst IsBook c.get.ensures c.size-size.ensures.kept in let t = l.2.1 in
    (book_at t.0 x, found_by v x share kept is k t.0 t.1 t.2, (a.0 ∙ l.0 ∙ e.0.0, a.1 ∙ l.1 ∙ e.0.1, a.2 ∙ ap (λ (m : AtTable). (giving m.0, [])) l.2.2 ∙ ap (λ (w : View). (w, [])) (looked_as v x kept 0 t.0)))
