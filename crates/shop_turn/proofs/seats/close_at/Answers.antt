use Rattle.std.proofs.Common.{◌∙◌, arith, subst, sym}
use Rattle.shop_book.specs.Books.{BookValue, IsBook}
use Rattle.shop_turn.specs.Seats.{Found}
use Rattle.shop_turn.proofs.SeatLemmas.{looks_alone, measures_as}
use Rattle.shop_turn.proofs.Founds.{shares_looked, measured_after, all_found, raised_book}
use Rattle.shop_turn.proofs.seats.close_at.Goals as goal

pub load-requires : goal.load-requires
load-requires g c = let at = c.requires.at in let e = c.take_turn-share.ensures in (e.1.0 ∙ at.table, (let a = at.words in omega arith), looks_alone _ _ _ _ 0 0 c.take_turn-share.result e.0)

pub gather_all-requires-clause-first : goal.gather_all-requires-clause-first
gather_all-requires-clause-first g c = shares_looked 0 0 c.take_turn-share.result c.take_turn-share.new.seat.me _ c.take_turn-share.ensures.0 c.load.ensures.2.2

pub load-latest-requires : goal.load-latest-requires
load-latest-requires g c = let at = c.requires.at in let e = c.take_turn-share.ensures in let o = c.gather_all.ensures in
    (o.1.0 ∙ c.load.ensures.0 ∙ e.1.0 ∙ at.table, (let a = at.words in omega arith), measures_as _ _ _ _ c.args.callers c.take_turn-share.result c.requires.callers o.0)

pub returns : goal.returns
returns g c =
    let e = c.take_turn-share.ensures in let l = c.load.ensures in let o = c.gather_all.ensures in let m = c.load-latest.ensures in
    let share = c.take_turn-share.result in let latest = c.load-latest.result in
    let is = raised_book latest share _ _ c.book_of-book.ensures c.raise.ensures.value (measured_after c.args.callers latest share c.gather_all.new.seat.me o.0 m.2.0) in
    subst (λ (b : BookValue). Found b c.args.seat.now.me.0) (sym is) (all_found c.args.seat.now.me.0 0 c.args.callers latest share c.take_turn-share.new.seat.me c.load.new.seat.me c.gather_all.new.seat.me _ e.0 e.1.2 l.2.2 o.0 o.1.2 m.2.2 l.2.1.0 (subst IsBook is c.raise.ensures.kept) m.2.3 l.2.1.2)
