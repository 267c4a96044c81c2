use Rattle.std.proofs.Common.{◌≡◌, List, [], ◌∷◌, ◌++◌, length, sym, ◌∙◌, ap, subst, arith, append_assoc, append-nil, add-one}
use Rattle.std.specs.Prelude.{All}
use Rattle.std.specs.Vec.Iter.{into_iter_items}
use Rattle.std.proofs.lemmas.List.{nil_from_length}
use Rattle.std.proofs.lemmas.List.Elements.{All-head, All-tail}
use Rattle.shop_model.specs.declared.tables.Tables.{Tables}
use Rattle.shop_history.specs.declared.keys.Key.{Key}
use Rattle.shop_history.specs.Keys.{row_of}
use Rattle.shop_history.proofs.cited.Versions.{RaisedFor}
use Rattle.shop_book.specs.declared.watching.Watched.{Watched}
use Rattle.shop_book.specs.RowsNow.{tables_with}
use Rattle.shop_book.specs.Stored.{stored}
use Rattle.shop_book.specs.Watching.{keys_of, CanWatch, AreOf}
use Rattle.shop_book.proofs.Placed.{more_place, then_more}
use Rattle.shop_book.proofs.WatchingLemmas.{raised_more, keys_more}
use Rattle.shop_book.proofs.watching.raise_changed.Goals as goal

pub raise_if_changed-requires-clause-watchable : goal.raise_if_changed-requires-clause-watchable
raise_if_changed-requires-clause-watchable c =
    let kept : Watched = c.in-Some.kept in
    let can : CanWatch c.args.versions.now kept = All-head (CanWatch c.args.versions.now) kept (into_iter_items c.next.new.self) (subst (All (CanWatch c.args.versions.now)) c.in-Some.ensures.steps.0 c.loop-kept.invariant.watchable) in
    record { kind = can.kind; place = λ some. more_place c.args.versions.now c.loop-kept.versions kept.key c.loop-kept.invariant.places (can.place some) }

pub loop-kept-preserved : goal.loop-kept-preserved
loop-kept-preserved c =
    let kept : Watched = c.in-Some.kept in
    let rest = into_iter_items c.next.new.self in
    let is = c.in-Some.ensures.steps.0 in
    let raised = c.raise_if_changed.ensures in
    let left : (before : Tables) → AreOf before c.args.watched.items → AreOf before (kept ∷ rest) = λ before are. subst (AreOf before) is (c.loop-kept.invariant.left before are) in
    record {
      all = append_assoc c.loop-kept.yielded (kept ∷ []) rest ∙ ap (λ (l : List Watched). c.loop-kept.yielded ++ l) (sym is) ∙ c.loop-kept.invariant.all;
      places = then_more c.loop-kept.invariant.places raised.places;
      spare = raised.spare (length rest) (rw (is, ← add-one) at c.loop-kept.invariant.spare);
      watchable = All-tail (CanWatch c.args.versions.now) kept rest (subst (All (CanWatch c.args.versions.now)) is c.loop-kept.invariant.watchable);
      left = λ before are. All-tail (λ (w : Watched). w.row ≡ row_of before w.key) kept rest (left before are);
      raised = λ before t are.
          subst (λ (ks : List Key). RaisedFor before (tables_with t c.args.rows.now) c.args.number ks (stored c.args.versions.now) (stored c.raise_if_changed.new.versions)) (sym (keys_more c.loop-kept.yielded kept))
          (raised_more before t c.args.rows.now c.args.number (keys_of c.loop-kept.yielded) (stored c.args.versions.now) c.loop-kept.versions c.raise_if_changed.new.versions kept
          (All-head (λ (w : Watched). w.row ≡ row_of before w.key) kept rest (left before are)) raised.raised (c.loop-kept.invariant.raised before t are));
    }

pub returns-clause-raised : goal.returns-clause-raised
returns-clause-raised c = λ before t are.
    let none : into_iter_items c.loop-kept.kept-iterator ≡ [] = nil_from_length (into_iter_items c.loop-kept.kept-iterator) (omega (arith, c.loop-kept.kept-iterator.rest.ok.0, c.in-None.ensures.steps.0)) in
    let all : c.loop-kept.yielded ≡ c.args.watched.items = sym (append-nil c.loop-kept.yielded) ∙ ap (λ (l : List Watched). c.loop-kept.yielded ++ l) (sym none) ∙ c.loop-kept.invariant.all in
    subst (λ (watched : List Watched). RaisedFor before (tables_with t c.args.rows.now) c.args.number (keys_of watched) (stored c.args.versions.now) (stored c.loop-kept.versions)) all
    (c.loop-kept.invariant.raised before t are)
