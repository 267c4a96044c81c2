use Rattle.std.proofs.Common.{[], ap, ◌∙◌, arith, subst, sym, refl, length, max, Some, None, ◌≡◌, ◌≤◌, ◌+◌, ℕ}
use Rattle.shop_history.specs.declared.acts.Drawn.{Drawn}
use Rattle.shop_history.specs.Drawing.{no_ids}
use Rattle.shop_history.specs.Logs.{entries_of}
use Rattle.shop_attempt.specs.Reads.{first_stale}
use Rattle.shop_book.specs.Books.{BookValue, IsBook}
use Rattle.std.specs.List.{All}
use Rattle.shop_turn.specs.declared.rule.View.{View}
use Rattle.shop_turn.specs.Marks.{MarkFits}
use Rattle.shop_turn.specs.Views.{giving, raising}
use Rattle.shop_turn.specs.Plays.{AtTable, book_at}
use Rattle.shop_turn.proofs.SeatLemmas.{looks_inside, raises_inside}
use Rattle.shop_turn.proofs.Founds.{found_by, looked_as, stale_as, pass_found, pass_kept, pass_as, passed_view, inside_keeps, inside_book, inside_after, inside_raised}
use Rattle.shop_turn.proofs.seats.settle_reading.Goals as goal

pub load-requires : goal.load-requires
load-requires g c = let at = c.requires.at in let r = c.requires.ready in let e = c.take_share-share.ensures in
    (e.0.0 ∙ at.table, (let a = at.words in omega arith), looks_inside _ _ _ _ 1 c.args.number c.take_share-share.result c.args.seat.now.me.0 _ e.0.2 r.live r.number_is r.one)

pub fetch_max-latest-requires : goal.fetch_max-latest-requires
fetch_max-latest-requires g c = let at = c.requires.at in let e = c.take_share-share.ensures in let l = c.load.ensures in
    (l.0 ∙ e.0.0 ∙ at.table, (let a = at.words in omega arith), raises_inside _ _ _ _ _ c.args.number c.take_share-share.result c.requires.moment (inside_after c.args.number _ 1 c.take_share-share.result c.args.seat.now.me _ _ c.requires.ready e.0.2 e.1 l.2.2))

pub returns-in-Some : goal.returns-in-Some
returns-in-Some g c =
    let e = c.take_share-share.ensures in let l = c.load.ensures in let a = c.leave.ensures in
    let v = c.args.seat.now.me.0 in let share = c.take_share-share.result in let x = c.take_share-share.new.seat.me.0 in
    let kept = inside_keeps share v c.take_share-share.new.seat.me _ e.0.2 in let is = inside_book share v c.take_share-share.new.seat.me _ e.0.2 e.1 in
    let k = subst IsBook c.get.ensures c.size-front.ensures.kept in let t = l.2.1 in
    let found = found_by v x share kept is k t.0 t.1 t.2 in
    let first = subst (λ (b : BookValue). first_stale b.opening.tables b.log c.args.attempt.reads ≡ Some c.in-Some.conflict) c.get-2.ensures (sym c.first_stale.ensures.first ∙ c.in-Some.is) in
    record {
      before = book_at t.0 x;
      after = book_at t.0 x;
      found = found;
      kept = found.book_is;
      settles = stale_as v x share kept is k t.0 c.args.number 0 c.args.attempt c.in-Some.conflict found c.requires.faithful first;
      seat = (a.0 ∙ l.0 ∙ e.0.0, a.1 ∙ l.1 ∙ e.0.1, a.2 ∙ ap (λ (m : AtTable). (giving m.0, [])) l.2.2 ∙ ap (λ (w : View). (w, [])) (looked_as v x kept 1 t.0));
    }

pub returns : goal.returns
returns g c =
    let e = c.take_share-share.ensures in let l = c.load.ensures in let f = c.fetch_max-latest.ensures in let a = c.leave-in-None.ensures in
    let v = c.args.seat.now.me.0 in let share = c.take_share-share.result in let x = c.take_share-share.new.seat.me.0 in
    let kept = inside_keeps share v c.take_share-share.new.seat.me _ e.0.2 in let is = inside_book share v c.take_share-share.new.seat.me _ e.0.2 e.1 in
    let k = subst IsBook c.get.ensures c.size-front.ensures.kept in let t = l.2.1 in
    let later = c.fetch_max-latest.result in
    let number : ℕ = length (entries_of c.args.number x.log) + 1 in
    let drawn : Drawn = record { front = c.size-front.result; stamp = c.max.result; ids = no_ids } in
    let marks = subst (λ (m : AtTable). All (MarkFits m.0.log later) m.0.marks) l.2.2 f.2.0 in
    let after : x.latest ≤ later = (let n = ap (λ (m : AtTable). m.0.latest) l.2.2 in let le = f.2.1 in omega arith) in
    let fresh = subst (λ (b : BookValue). first_stale b.opening.tables b.log c.args.attempt.reads ≡ None) c.get-2.ensures (sym c.first_stale.ensures.first ∙ c.in-None.is) in
    record {
      before = book_at later x;
      after = book_at (max later c.args.attempt.moment) x;
      found = pass_found v x share kept is k t.0 later c.args.number number c.args.attempt drawn c.requires.reads marks after f.2.2 c.requires.moment t.2;
      kept = pass_kept v x share kept is k t.0 later c.args.number number c.args.attempt drawn c.requires.reads marks after f.2.2 c.requires.moment t.2;
      settles = pass_as v x share kept is k t.0 later c.args.number number c.args.attempt drawn c.requires.reads marks after f.2.2 c.requires.moment t.2 fresh (c.size-front.ensures.value ∙ ap (λ (b : BookValue). length b.log) c.get.ensures) c.max.ensures refl;
      seat = (a.0 ∙ f.0 ∙ l.0 ∙ e.0.0, a.1 ∙ f.1 ∙ l.1 ∙ e.0.1, a.2 ∙ ap (λ (m : AtTable). (giving m.0, [])) f.2.3 ∙ ap (λ (m : AtTable). (giving (raising c.args.attempt.moment m.0), [])) l.2.2 ∙ ap (λ (w : View). (w, [])) (passed_view v x share kept is k t.0 later c.args.number number c.args.attempt drawn c.requires.reads marks after f.2.2 c.requires.moment t.2));
    }

pub leave-requires-clause-inside : goal.leave-requires-clause-inside
leave-requires-clause-inside g c = let e = c.take_share-share.ensures in inside_after c.args.number _ 1 c.take_share-share.result c.args.seat.now.me _ _ c.requires.ready e.0.2 e.1 c.load.ensures.2.2

pub leave-requires-in-None-clause-inside : goal.leave-requires-in-None-clause-inside
leave-requires-in-None-clause-inside g c = let e = c.take_share-share.ensures in
    inside_raised c.args.number _ c.args.attempt.moment c.take_share-share.result c.load.new.seat.me _ (inside_after c.args.number _ 1 c.take_share-share.result c.args.seat.now.me _ _ c.requires.ready e.0.2 e.1 c.load.ensures.2.2) c.fetch_max-latest.ensures.2.3
