use Rattle.std.proofs.Common.{◌≡◌, ◌-◌, [], set, get_or, inl, inr, refl, sym, ◌∙◌, ap, arith}
use Rattle.std.proofs.lemmas.List.{get_or_default}
use Rattle.std.proofs.lemmas.Option.{slice_get_within}
use Rattle.shop_model.specs.rows.Subjects.{subjects}
use Rattle.shop_book.specs.Places.{subject_id}
use Rattle.shop_book.proofs.Placed.{more_places}
use Rattle.shop_book.proofs.SubjectIds.{subject_has, subject_at_place}
use Rattle.shop_book.proofs.mending.renew_newest.Goals as goal
use Rattle.shop_book.proofs.mending.renew_newest.Goals.{After-renew}

-- where the list stands
place_is : (c : After-renew) → c.number.result ≡ subject_id c.args.subject - 1
place_is c = omega (arith, subject_at_place c.number.result c.args.subject c.number.ensures)

-- the list as it was
list_was : (c : After-renew) → c.index_mut-list.result.now ≡ get_or c.args.lists.now.items (subject_id c.args.subject - 1) []
list_was c =
    let within = slice_get_within subjects c.number.result c.args.subject c.number.ensures in
    c.index_mut-list.ensures.value
    ∙ get_or_default c.args.lists.now.items c.number.result c.index_mut-list.result.now [] (omega (arith, within, c.requires.size))
    ∙ ap (λ n. get_or c.args.lists.now.items n []) (place_is c)

lists_are : (c : After-renew) → set c.args.lists.now.items c.number.result c.renew.new.self ≡ set c.args.lists.now.items (subject_id c.args.subject - 1) c.renew.new.self
lists_are c = ap (λ n. set c.args.lists.now.items n c.renew.new.self) (place_is c)

pub raise-requires-clause-place : goal.raise-requires-clause-place
raise-requires-clause-place c = more_places _ _ (subject_id c.args.subject) c.requires.place (subject_has c.args.subject)

pub returns-then-renew-clause-lists : goal.returns-then-renew-clause-lists
returns-then-renew-clause-lists c = lists_are (goal.at.returns-then-renew-clause-lists c).After-renew ∙ ap (set c.args.lists.now.items (subject_id c.args.subject - 1)) c.renew.ensures.list

pub returns-else-renew-clause-lists : goal.returns-else-renew-clause-lists
returns-else-renew-clause-lists c = lists_are (goal.at.returns-else-renew-clause-lists c).After-renew ∙ ap (set c.args.lists.now.items (subject_id c.args.subject - 1)) c.renew.ensures.list

pub returns-then-renew-clause-renewed : goal.returns-then-renew-clause-renewed
returns-then-renew-clause-renewed c =
    record {
      here = inr (refl, λ same. c.renew.ensures.other c.if-renew.true (c.renew.ensures.list ∙ sym same ∙ sym (list_was (goal.at.returns-then-renew-clause-renewed c).After-renew)), c.raise.ensures.here);
      others = c.raise.ensures.others;
    }

pub returns-else-renew-clause-renewed : goal.returns-else-renew-clause-renewed
returns-else-renew-clause-renewed c =
    record {
      here = inl (sym c.renew.ensures.list ∙ c.renew.ensures.same c.if-renew.false ∙ list_was (goal.at.returns-else-renew-clause-renewed c).After-renew, refl);
      others = λ k apart. refl;
    }
