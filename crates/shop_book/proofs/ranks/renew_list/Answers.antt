use Rattle.std.proofs.Common.{◌≡◌, [], set, get_or, inl, inr, refl, sym, ◌∙◌, ap, arith}
use Rattle.std.proofs.lemmas.List.{get_or_default}
use Rattle.std.proofs.lemmas.Option.{slice_get_within}
use Rattle.shop_model.specs.rows.Subjects.{subjects}
use Rattle.shop_ranking.specs.StandingBest.{standing_best}
use Rattle.shop_book.specs.Places.{subject_id}
use Rattle.shop_book.specs.Stored.{stored}
use Rattle.shop_book.proofs.RankLemmas.{renews_more}
use Rattle.shop_book.proofs.Placed.{more_places}
use Rattle.shop_book.proofs.SubjectIds.{subject_has}
use Rattle.shop_book.proofs.ranks.renew_list.Goals as goal
use Rattle.shop_book.proofs.ranks.renew_list.Goals.{After-renew}

-- the list as it was
list_was : (c : After-renew) → c.index_mut-list.result.now ≡ get_or c.args.lists.now.items c.number.result []
list_was c =
    let within = slice_get_within subjects c.number.result c.args.subject c.number.ensures in
    c.index_mut-list.ensures.value ∙ get_or_default c.args.lists.now.items c.number.result c.index_mut-list.result.now [] (omega (arith, within, c.requires.size))

pub raise-requires-clause-place : goal.raise-requires-clause-place
raise-requires-clause-place c = more_places _ _ (subject_id c.args.subject) c.requires.place (subject_has c.args.subject)

pub returns-then-renew-clause-renewed : goal.returns-then-renew-clause-renewed
returns-then-renew-clause-renewed c = λ was old done renews.
    renews_more was (standing_best c.args.best.now) c.args.number c.args.lists.now.items (set c.args.lists.now.items c.number.result c.renew.new.self) old (stored c.args.versions.now) (stored c.raise.new.self)
    c.args.subject c.number.result
    (record {
      place_is = c.number.ensures;
      lists_are = ap (set c.args.lists.now.items c.number.result) c.renew.ensures.list;
      renewed = inr (refl, λ same. c.renew.ensures.other c.if-renew.true (c.renew.ensures.list ∙ sym same ∙ sym (list_was (goal.at.returns-then-renew-clause-renewed c).After-renew)), c.raise.ensures.here);
      others = c.raise.ensures.others;
    })
    done renews

pub returns-else-renew-clause-renewed : goal.returns-else-renew-clause-renewed
returns-else-renew-clause-renewed c = λ was old done renews.
    renews_more was (standing_best c.args.best.now) c.args.number c.args.lists.now.items (set c.args.lists.now.items c.number.result c.renew.new.self) old (stored c.args.versions.now) (stored c.args.versions.now)
    c.args.subject c.number.result
    (record {
      place_is = c.number.ensures;
      lists_are = ap (set c.args.lists.now.items c.number.result) c.renew.ensures.list;
      renewed = inl (sym c.renew.ensures.list ∙ c.renew.ensures.same c.if-renew.false ∙ list_was (goal.at.returns-else-renew-clause-renewed c).After-renew, refl);
      others = λ k apart. refl;
    })
    done renews
