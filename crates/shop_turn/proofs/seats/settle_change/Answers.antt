use Rattle.std.proofs.Common.{◌≡◌, [], ap, sym, subst, refl, ◌∙◌, ◌+◌, ℕ, length, arith}
use Rattle.shop_history.specs.Logs.{entries_of}
use Rattle.shop_attempt.specs.Faithful.{Faithful}
use Rattle.shop_attempt.specs.declared.attempts.Attempt.{Attempt}
use Rattle.shop_book.specs.Books.{BookValue, IsBook}
use Rattle.shop_book.specs.Preparing.{IsPrepared}
use Rattle.shop_book.specs.Settles.{SettledAs}
use Rattle.shop_book.specs.declared.prepared.Prepared.{Prepared}
use Rattle.shop_turn.specs.declared.rule.View.{View}
use Rattle.shop_turn.specs.Views.{giving}
use Rattle.shop_turn.specs.Plays.{AtTable, book_at}
use Rattle.shop_turn.specs.Shared.{at_stamp}
use Rattle.shop_turn.specs.Seats.{HasShares}
use Rattle.shop_turn.proofs.SeatLemmas.{looks_alone, measures_as}
use Rattle.shop_turn.proofs.Founds.{shares_looked, faithful_as, shares_measured, found_by, refused_same, refused_as, refused_view_as, all_found, all_refused, all_changed, all_counted}
use Rattle.shop_turn.proofs.seats.settle_change.Goals as goal

pub load-next-requires : goal.load-next-requires
load-next-requires g c = let at = c.requires.at in let e = c.take_turn-share.ensures in (e.1.0 ∙ at.table, (let a = at.words in omega arith), looks_alone _ _ _ _ 1 0 c.take_turn-share.result e.0)

pub prepare-requires-clause-faithful : goal.prepare-requires-clause-faithful
prepare-requires-clause-faithful g c = let e = c.take_turn-share.ensures in let t = c.load-next.ensures.2.1 in
    subst (λ (b : BookValue). Faithful b.opening.tables b.log c.args.attempt) (sym c.get-2.ensures) (faithful_as c.args.seat.now.me.0 c.take_turn-share.new.seat.me.0 c.take_turn-share.result t.0 c.args.attempt e.1.2 e.0.book t.2 c.requires.faithful)

pub gather_all-requires-clause-first : goal.gather_all-requires-clause-first
gather_all-requires-clause-first g c = shares_looked 0 1 c.take_turn-share.result c.take_turn-share.new.seat.me _ c.take_turn-share.ensures.0 c.load-next.ensures.2.2

pub load-latest-requires : goal.load-latest-requires
load-latest-requires g c = let at = c.requires.at in let e = c.take_turn-share.ensures in let o = c.gather_all.ensures in
    (o.1.0 ∙ c.load-next.ensures.0 ∙ e.1.0 ∙ at.table, (let a = at.words in omega arith), measures_as _ _ _ _ c.args.callers c.take_turn-share.result c.requires.callers o.0)

-- what was prepared, under the number that comes next in the log of the share
prepared_as : (n count : ℕ) (share seen counted : BookValue) (a : Attempt) (p : Prepared) → seen ≡ share → counted ≡ share → count ≡ length (entries_of n counted.log) → IsPrepared seen.opening seen.log n (count + 1) a p
    → IsPrepared share.opening share.log n (length (entries_of n share.log) + 1) a p
prepared_as n count share seen counted a p is same number ready =
    subst (λ (k : ℕ). IsPrepared share.opening share.log n (k + 1) a p) (number ∙ ap (λ (b : BookValue). length (entries_of n b.log)) same) (subst (λ (b : BookValue). IsPrepared b.opening b.log n (count + 1) a p) is ready)

pub count_one-requires-clause-longer : goal.count_one-requires-clause-longer
count_one-requires-clause-longer g c =
    let e = c.take_turn-share.ensures in let l = c.load-next.ensures in let o = c.gather_all.ensures in let m = c.load-latest.ensures in let share = c.take_turn-share.result in
    let ready = prepared_as c.args.number c.count_of-next.result share _ _ c.args.attempt c.in-Ok.prepared c.get-2.ensures c.get.ensures c.count_of-next.ensures.value c.in-Ok.ensures.prepared in
    all_counted c.args.seat.now.me.0 1 c.args.callers c.load-latest.result share c.take_turn-share.new.seat.me c.load-next.new.seat.me c.gather_all.new.seat.me _ e.0 e.1.2 l.2.2 o.0 o.1.2 m.2.2
    c.args.number _ c.args.attempt.moment c.commit.new.self c.args.attempt.act c.in-Done.drawn c.requires.ready.number_is c.requires.changes c.commit.ensures.kept c.requires.moment (c.in-Done.ensures.settles c.args.number _ c.args.attempt ready).taken

pub returns-in-Done : goal.returns-in-Done
returns-in-Done g c =
    let e = c.take_turn-share.ensures in let l = c.load-next.ensures in let o = c.gather_all.ensures in let m = c.load-latest.ensures in let n = c.count_one.ensures.keeps in let a = c.give_back.ensures in
    let v = c.args.seat.now.me.0 in let share = c.take_turn-share.result in let latest = c.load-latest.result in
    let ready = prepared_as c.args.number c.count_of-next.result share _ _ c.args.attempt c.in-Ok.prepared c.get-2.ensures c.get.ensures c.count_of-next.ensures.value c.in-Ok.ensures.prepared in
    record {
      before = at_stamp latest share;
      after = c.commit.new.self;
      found = all_found v 1 c.args.callers latest share c.take_turn-share.new.seat.me c.load-next.new.seat.me c.gather_all.new.seat.me _ e.0 e.1.2 l.2.2 o.0 o.1.2 m.2.2 l.2.1.0 c.commit.ensures.was m.2.3 l.2.1.2;
      kept = c.commit.ensures.kept;
      settles = c.in-Done.ensures.settles c.args.number _ c.args.attempt ready;
      seat = (
        a.0 ∙ n.0 ∙ m.0 ∙ o.1.0 ∙ l.0 ∙ e.1.0,
        a.1 ∙ n.1 ∙ m.1 ∙ o.1.1 ∙ l.1 ∙ e.1.1,
        a.2 ∙ ap (λ (w : View). (w, [])) (n.2 ∙ all_changed v 1 c.args.callers latest share c.take_turn-share.new.seat.me c.load-next.new.seat.me c.gather_all.new.seat.me _ e.0 e.1.2 l.2.2 o.0 o.1.2 m.2.2 c.commit.new.self.log c.args.attempt.moment),
      );
    }

pub give_back-requires-in_default : goal.give_back-requires-in_default
give_back-requires-in_default g c =
    let at = c.requires.at in let e = c.take_turn-share.ensures in let l = c.load-next.ensures in let o = c.gather_all.ensures in let m = c.load-latest.ensures in
    let share = c.take_turn-share.result in let latest = c.load-latest.result in
    let ready = prepared_as c.args.number c.count_of-next.result share _ _ c.args.attempt c.in-Ok.prepared c.get-2.ensures c.get.ensures c.count_of-next.ensures.value c.in-Ok.ensures.prepared in
    let same = refused_same (at_stamp latest share) c.commit.new.self c.args.number _ c.args.attempt c.commit.result c.in_default.not-Done (c.commit.ensures.settles c.args.number _ c.args.attempt ready) in
    record {
      at = record { table = m.0 ∙ o.1.0 ∙ l.0 ∙ e.1.0 ∙ at.table; words = at.words; slots = at.slots; few = at.few };
      callers = c.requires.callers;
      all = subst (λ (b : BookValue). HasShares c.args.callers b c.load-latest.new.seat.me) (sym same) (shares_measured c.args.callers latest share c.gather_all.new.seat.me _ o.0 m.2.2);
    }

pub returns-in_default : goal.returns-in_default
returns-in_default g c =
    let e = c.take_turn-share.ensures in let l = c.load-next.ensures in let o = c.gather_all.ensures in let m = c.load-latest.ensures in let a = c.give_back-in_default.ensures in
    let v = c.args.seat.now.me.0 in let share = c.take_turn-share.result in let latest = c.load-latest.result in
    let ready = prepared_as c.args.number c.count_of-next.result share _ _ c.args.attempt c.in-Ok.prepared c.get-2.ensures c.get.ensures c.count_of-next.ensures.value c.in-Ok.ensures.prepared in
    record {
      before = at_stamp latest share;
      after = c.commit.new.self;
      found = all_found v 1 c.args.callers latest share c.take_turn-share.new.seat.me c.load-next.new.seat.me c.gather_all.new.seat.me _ e.0 e.1.2 l.2.2 o.0 o.1.2 m.2.2 l.2.1.0 c.commit.ensures.was m.2.3 l.2.1.2;
      kept = c.commit.ensures.kept;
      settles = c.commit.ensures.settles c.args.number _ c.args.attempt ready;
      seat = (
        a.0 ∙ m.0 ∙ o.1.0 ∙ l.0 ∙ e.1.0,
        a.1 ∙ m.1 ∙ o.1.1 ∙ l.1 ∙ e.1.1,
        a.2 ∙ ap (λ (w : View). (w, [])) (all_refused v 1 c.args.callers latest share c.take_turn-share.new.seat.me c.load-next.new.seat.me c.gather_all.new.seat.me _ e.0 e.1.2 l.2.2 o.0 o.1.2 m.2.2 refl c.commit.new.self c.args.attempt.moment c.commit.result c.in_default.not-Done),
      );
    }

pub returns-in-Err : goal.returns-in-Err
returns-in-Err g c =
    let e = c.take_turn-share.ensures in let l = c.load-next.ensures in let a = c.give_turn.ensures in let t = l.2.1 in
    let v = c.args.seat.now.me.0 in let x = c.take_turn-share.new.seat.me.0 in let share = c.take_turn-share.result in
    let k = subst IsBook c.get-2.ensures c.in-Err.ensures.kept in
    let found = found_by v x share e.1.2 e.0.book k t.0 t.1 t.2 in
    let refused = subst (λ (n : ℕ). SettledAs share share c.args.number (n + 1) c.args.attempt c.in-Err.refused) (c.count_of-next.ensures.value ∙ ap (λ (b : BookValue). length (entries_of c.args.number b.log)) c.get.ensures)
    (subst (λ (b : BookValue). SettledAs b b c.args.number (c.count_of-next.result + 1) c.args.attempt c.in-Err.refused) c.get-2.ensures c.in-Err.ensures.refused) in
    record {
      before = book_at t.0 x;
      after = book_at t.0 x;
      found = found;
      kept = found.book_is;
      settles = refused_as v x share e.1.2 e.0.book k t.0 c.args.number c.args.attempt c.in-Err.refused c.requires.changes refused;
      seat = (a.0 ∙ l.0 ∙ e.1.0, a.1 ∙ l.1 ∙ e.1.1, a.2 ∙ ap (λ (m : AtTable). (giving m.0, [])) l.2.2 ∙ ap (λ (w : View). (w, [])) (refused_view_as v x share e.1.2 e.0.book k t.0 c.args.number c.args.attempt c.in-Err.refused c.requires.changes refused));
    }
