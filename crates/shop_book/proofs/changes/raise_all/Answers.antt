use Rattle.std.proofs.Common.{◌≡◌, List, [], ◌∷◌, ◌++◌, length, sym, ◌∙◌, ap, subst, arith, append_assoc, append-nil, add-one}
use Rattle.std.specs.Prelude.{All}
use Rattle.std.specs.Vec.Iter.{into_iter_items}
use Rattle.std.proofs.lemmas.List.{nil_from_length}
use Rattle.std.proofs.lemmas.List.Elements.{All-head, All-tail}
use Rattle.shop_history.specs.declared.keys.Key.{Key}
use Rattle.shop_book.specs.Changing.{RaisesAll}
use Rattle.shop_book.specs.Stored.{stored, HasPlace, HasSpare}
use Rattle.shop_book.proofs.Placed.{more_place, then_more}
use Rattle.shop_book.proofs.WatchingLemmas.{all_more, spare_one}
use Rattle.shop_book.proofs.changes.raise_all.Goals as goal

pub raise-requires-clause-place : goal.raise-requires-clause-place
raise-requires-clause-place c =
    more_place c.args.versions.now c.loop-key.versions c.in-Some.key c.loop-key.invariant.places
    (All-head (HasPlace c.args.versions.now) c.in-Some.key (into_iter_items c.next.new.self) (subst (All (HasPlace c.args.versions.now)) c.in-Some.ensures.steps.0 c.loop-key.invariant.left))

pub raise-requires-clause-spare : goal.raise-requires-clause-spare
raise-requires-clause-spare c =
    let spare : HasSpare c.loop-key.versions (length (c.in-Some.key ∷ into_iter_items c.next.new.self)) = subst (λ (ks : List Key). HasSpare c.loop-key.versions (length ks)) c.in-Some.ensures.steps.0 c.loop-key.invariant.spare in
    spare_one c.in-Some.key c.loop-key.versions (grind (arith, spare))

pub loop-key-preserved : goal.loop-key-preserved
loop-key-preserved c =
    let key : Key = c.in-Some.key in
    let rest = into_iter_items c.next.new.self in
    let is = c.in-Some.ensures.steps.0 in
    record {
      all = append_assoc c.loop-key.yielded (key ∷ []) rest ∙ ap (λ (l : List Key). c.loop-key.yielded ++ l) (sym is) ∙ c.loop-key.invariant.all;
      places = then_more c.loop-key.invariant.places c.raise.ensures.places;
      spare = c.raise.ensures.spare (length rest) (rw (is, ← add-one) at c.loop-key.invariant.spare);
      left = All-tail (HasPlace c.args.versions.now) key rest (subst (All (HasPlace c.args.versions.now)) is c.loop-key.invariant.left);
      raised = all_more c.args.number c.loop-key.yielded key (stored c.args.versions.now) (stored c.loop-key.versions) (stored c.raise.new.self) c.loop-key.invariant.raised c.raise.ensures.here c.raise.ensures.others;
    }

pub returns-clause-raised : goal.returns-clause-raised
returns-clause-raised c =
    let none : into_iter_items c.loop-key.key-iterator ≡ [] = nil_from_length (into_iter_items c.loop-key.key-iterator) (omega (arith, c.loop-key.key-iterator.rest.ok.0, c.in-None.ensures.steps.0)) in
    let all : c.loop-key.yielded ≡ c.args.keys.items = sym (append-nil c.loop-key.yielded) ∙ ap (λ (l : List Key). c.loop-key.yielded ++ l) (sym none) ∙ c.loop-key.invariant.all in
    subst (λ (keys : List Key). RaisesAll keys c.args.number (stored c.args.versions.now) (stored c.loop-key.versions)) all c.loop-key.invariant.raised
