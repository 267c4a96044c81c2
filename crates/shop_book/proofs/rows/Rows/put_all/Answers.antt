use Rattle.std.proofs.Common.{◌≡◌, ◌∷◌, length, ap, ◌∙◌, subst, sym, add-one}
use Rattle.std.specs.Prelude.{All}
use Rattle.std.specs.Vec.Iter.{into_iter_items}
use Rattle.std.proofs.lemmas.List.Elements.{All-head, All-tail}
use Rattle.shop_book.specs.Puts.{all_put, IsWhole}
use Rattle.shop_book.specs.RowsNow.{tables_with}
use Rattle.shop_book.specs.Readiness.{IdsFit}
use Rattle.shop_book.proofs.Readiness.{first_fits, room_one}
use Rattle.shop_book.proofs.rows.Rows.put_all.Goals as goal

pub put-requires : goal.put-requires
put-requires c =
    let rows = c.loop-put.self in
    let rest = into_iter_items c.next.new.self in
    let put = c.in-Some.put in
    let is = c.in-Some.ensures.steps.0 in
    let made : all_put (tables_with c.requires.tables rows) c.args.stamp (put ∷ rest) ≡ all_put (tables_with c.requires.tables c.args.self.now) c.args.stamp c.args.puts.items = ap (all_put (tables_with c.requires.tables rows) c.args.stamp) (sym is) ∙ c.loop-put.invariant.made c.requires.tables in
    record {
      room = room_one rows rest put (rw is at c.loop-put.invariant.room);
      whole = All-head IsWhole put rest (subst (All IsWhole) is c.loop-put.invariant.whole);
      tables = c.requires.tables;
      fits = first_fits (tables_with c.requires.tables rows) c.args.stamp put rest (subst IdsFit (sym made) c.requires.fits);
      bound = c.requires.bound;
    }

pub loop-put-preserved : goal.loop-put-preserved
loop-put-preserved c =
    let rows = c.loop-put.self in
    let rest = into_iter_items c.next.new.self in
    let put = c.in-Some.put in
    let is = c.in-Some.ensures.steps.0 in
    record {
      made = λ t. ap (λ u. all_put u c.args.stamp rest) (c.put.ensures.made t) ∙ ap (all_put (tables_with t rows) c.args.stamp) (sym is) ∙ c.loop-put.invariant.made t;
      whole = All-tail IsWhole put rest (subst (All IsWhole) is c.loop-put.invariant.whole);
      room = c.put.ensures.room (length rest) (rw (is, ← add-one) at c.loop-put.invariant.room);
    }
