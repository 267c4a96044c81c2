use Rattle.std.proofs.Common.{[], ap, ◌∙◌, arith, subst, sym}
use Rattle.shop_book.specs.Books.{BookValue, IsBook}
use Rattle.shop_turn.specs.declared.rule.View.{View}
use Rattle.shop_turn.specs.Views.{giving}
use Rattle.shop_turn.specs.Plays.{AtTable, book_at}
use Rattle.shop_turn.specs.Seats.{HasShares}
use Rattle.shop_turn.proofs.SeatLemmas.{looks_alone}
use Rattle.shop_turn.proofs.Founds.{found_by, looked_as, read_as, shares_looked}
use Rattle.shop_turn.proofs.seats.read_alone.Goals as goal

pub load-requires : goal.load-requires
load-requires g c = let at = c.requires.at in let e = c.take_turn-share.ensures in (e.1.0 ∙ at.table, (let a = at.words in omega arith), looks_alone _ _ _ _ 0 0 c.take_turn-share.result e.0)

pub gather_all-requires-clause-first : goal.gather_all-requires-clause-first
gather_all-requires-clause-first g c = shares_looked 0 0 c.take_turn-share.result c.take_turn-share.new.seat.me _ c.take_turn-share.ensures.0 c.load.ensures.2.2

pub returns : goal.returns
returns g c =
    let e = c.take_turn-share.ensures in let l = c.load.ensures in let o = c.gather_all.ensures in let a = c.give_back.ensures in
    let v = c.args.seat.now.me.0 in let share = c.take_turn-share.result in let x = c.take_turn-share.new.seat.me.0 in
    let k = subst IsBook c.get.ensures c.size-size.ensures.kept in let t = l.2.1 in (
      book_at t.0 x,
      found_by v x share e.1.2 e.0.book k t.0 t.1 t.2,
      (a.0 ∙ o.1.0 ∙ l.0 ∙ e.1.0, a.1 ∙ o.1.1 ∙ l.1 ∙ e.1.1, a.2 ∙ ap (λ (w : View). (w, [])) (o.1.2 ∙ ap (λ (m : AtTable). giving m.0) l.2.2 ∙ looked_as v x e.1.2 0 t.0)),
      read_as v x share e.1.2 e.0.book k c.args.key.now c.read-read.result t.0 c.read-read.ensures.row,
    )

pub give_back-requires-clause-all : goal.give_back-requires-clause-all
give_back-requires-clause-all g c = subst (λ (b : BookValue). HasShares c.args.callers b c.gather_all.new.seat.me) (sym c.read-read.ensures.same) c.gather_all.ensures.0
