use Rattle.std.proofs.Common.{◌≡◌, List, [], ◌∷◌, ◌++◌, ap, ◌∙◌, subst, sym, append_assoc, append-nil, arith}
use Rattle.std.specs.Prelude.{All}
use Rattle.std.specs.Vec.Iter.{into_iter_items}
use Rattle.std.proofs.lemmas.List.{map-append, nil_from_length}
use Rattle.std.proofs.lemmas.List.Elements.{All-nil, All-head, All-tail, All-push}
use Rattle.shop_history.specs.declared.keys.Key.{Key}
use Rattle.shop_history.specs.Keys.{row_of}
use Rattle.shop_book.specs.declared.watching.Watched.{Watched}
use Rattle.shop_book.specs.RowsNow.{tables_with}
use Rattle.shop_book.specs.Watching.{AreOf, IsWatchable, keys_of}
use Rattle.shop_book.proofs.watching.watch.Goals as goal

pub loop-key-init : goal.loop-key-init
loop-key-init c =
    let none = c.in_ok-watched.ensures.items in
    let all = c.into_iter-key-iterator.ensures.into_iter_gives.0 in
    record {
      keys = ap (λ (watched : List Watched). keys_of watched ++ into_iter_items c.into_iter-key-iterator.result) none;
      rows = λ t. subst (AreOf (tables_with t c.args.rows.now)) (sym none) (All-nil (λ (w : Watched). w.row ≡ row_of (tables_with t c.args.rows.now) w.key));
      kinds = subst (All (λ w. IsWatchable w.key)) (sym none) (All-nil (λ (w : Watched). IsWatchable w.key));
      rest = subst (All IsWatchable) (sym all) c.requires.kinds;
    }

pub row_now-requires-clause-watchable : goal.row_now-requires-clause-watchable
row_now-requires-clause-watchable c =
    All-head IsWatchable c.in-Some.key (into_iter_items c.next.new.self) (subst (All IsWatchable) c.in-Some.ensures.steps.0 c.loop-key.invariant.rest)

pub loop-key-preserved : goal.loop-key-preserved
loop-key-preserved c =
    let key = c.in-Some.key in
    let watched = c.loop-key.watched.items in
    let kept : Watched = record { key = key; row = c.in_ok-row.row } in
    let rest = into_iter_items c.next.new.self in
    let is = c.in-Some.ensures.steps.0 in
    let more = c.in_ok-push.ensures.items in
    record {
      keys = ap (λ (l : List Watched). keys_of l ++ rest) more
          ∙ ap (λ (l : List Key). l ++ rest) (map-append (λ (w : Watched). w.key) watched (kept ∷ []))
          ∙ append_assoc (keys_of watched) (key ∷ []) rest
          ∙ ap (λ (l : List Key). keys_of watched ++ l) (sym is) ∙ c.loop-key.invariant.keys;
      rows = λ t. subst (AreOf (tables_with t c.args.rows.now)) (sym more)
          (All-push (λ (w : Watched). w.row ≡ row_of (tables_with t c.args.rows.now) w.key) watched kept (c.loop-key.invariant.rows t) (c.in_ok-row.ensures t));
      kinds = subst (All (λ w. IsWatchable w.key)) (sym more)
          (All-push (λ (w : Watched). IsWatchable w.key) watched kept c.loop-key.invariant.kinds (All-head IsWatchable key rest (subst (All IsWatchable) is c.loop-key.invariant.rest)));
      rest = All-tail IsWatchable key rest (subst (All IsWatchable) is c.loop-key.invariant.rest);
    }

pub returns-clause-keys : goal.returns-clause-keys
returns-clause-keys c =
    let none : into_iter_items c.loop-key.key-iterator ≡ [] = nil_from_length (into_iter_items c.loop-key.key-iterator) (omega (arith, c.loop-key.key-iterator.rest.ok.0, c.in-None.ensures.steps.0)) in
    sym (append-nil (keys_of c.loop-key.watched.items)) ∙ ap (λ (l : List Key). keys_of c.loop-key.watched.items ++ l) (sym none)
    ∙ c.loop-key.invariant.keys ∙ c.into_iter-key-iterator.ensures.into_iter_gives.0
