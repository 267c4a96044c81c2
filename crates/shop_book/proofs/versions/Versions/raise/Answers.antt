use Rattle.std.proofs.Common.{◌≡◌, ℕ, ◌-◌, slice_set, List, [], length, get_or, set, Some, refl, sym, ◌∙◌, ap, subst}
use Rattle.std.specs.Vec.{with_item}
use Rattle.std.proofs.lemmas.List.{get_or_default}
use Rattle.shop_model.specs.rows.Sound.{Has}
use Rattle.shop_book.specs.Places.{place_of}
use Rattle.shop_book.specs.declared.versions.Versions.{Versions}
use Rattle.shop_book.specs.Stored.{stored_in, HasPlaceIn}
use Rattle.shop_book.proofs.Grid.{at_place, set_place, place_here, place_other, places_apart, stored_same, apart_same, within}
use Rattle.shop_book.proofs.versions.Versions.raise.Goals as goal
use Rattle.shop_book.proofs.versions.Versions.raise.Goals.{After-set}

place : After-set → ℕ × ℕ
place c = (c.in-Some.column, c.in-Some.id)

place_is : (c : After-set) → place_of c.args.key ≡ Some (place c)
unfolding place
place_is c = sym c.place_of.ensures ∙ c.in-Some.is

has : (c : After-set) → Has (length (get_or c.args.self.now.columns.items c.in-Some.column [])) c.in-Some.id
unfolding place
has c = subst (HasPlaceIn c.args.self.now c.args.key) (place_is c) c.requires.place

-- the columns, with the number at the place set
columns_are : (c : After-set) → set c.args.self.now.columns.items c.in-Some.column c.set.new.self ≡ set_place c.args.self.now.columns.items (place c) c.args.version
unfolding place
columns_are c =
    let was : c.index_mut.result.now ≡ get_or c.args.self.now.columns.items c.in-Some.column []
    = c.index_mut.ensures.value ∙ get_or_default c.args.self.now.columns.items c.in-Some.column c.index_mut.result.now [] (within c.args.self.now.columns.items c.in-Some.column c.in-Some.id (has c)) in
    ap (set c.args.self.now.columns.items c.in-Some.column) (c.set.ensures ∙ ap (λ (ns : List ℕ). slice_set ns (c.in-Some.id - 1) c.args.version) was)

abbrev after : After-set → Versions
after c = record c.args.self.now { columns = with_item c.args.self.now.columns c.in-Some.column c.set.new.self }

pub returns-in-Some-clause-here : goal.returns-in-Some-clause-here
unfolding place
returns-in-Some-clause-here c =
    let a = (goal.at.returns-in-Some-clause-here c).After-set in
    ap (stored_in (after a) c.args.key) (place_is a)
    ∙ ap (λ (cs : List (List ℕ)). at_place cs (place a)) (columns_are a)
    ∙ place_here c.args.self.now.columns.items (place a) c.args.version (has a)

pub returns-in-Some-clause-others : goal.returns-in-Some-clause-others
unfolding place
returns-in-Some-clause-others c = λ other apart.
    let a = (goal.at.returns-in-Some-clause-others c).After-set in
    stored_same c.args.self.now (after a) other
    (λ there there_is. ap (λ (cs : List (List ℕ)). at_place cs there) (columns_are a)
    ∙ place_other c.args.self.now.columns.items (place a) there c.args.version (has a) (places_apart c.args.key other (place a) there (place_is a) there_is apart))
    (apart_same c.args.self.now (after a) other refl (λ user is. refl) (λ text is. refl))

pub raise_text-requires-clause-text : goal.raise_text-requires-clause-text
raise_text-requires-clause-text c = subst (HasPlaceIn c.args.self.now c.args.key) (sym c.place_of.ensures ∙ c.in-None.is) c.requires.place
