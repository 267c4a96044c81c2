use Rattle.std.proofs.Common.{◌≡◌, ap, ◌∙◌, Vec, Global}
use Rattle.shop_model.specs.lists.Rankings.{in_order}
use Rattle.shop_ranking.specs.Standing.{always, listed}
use Rattle.shop_ranking.specs.StandingNewest.{Book, later, standing_newest, standing_books}
use Rattle.shop_ranking.proofs.newest.Newest.renew.Goals as goal

pub returns-clause-ids : goal.returns-clause-ids
unfolding standing_newest
returns-clause-ids c =
    let list : c.deref.result.now ≡ in_order later (standing_books c.args.self.now c.args.subject) =
    c.deref.ensures.value ∙ ap (λ (list : Vec Book Global). list.items) c.index.ensures
    ∙ c.self.invariant.kept.rankings.each c.number.result c.args.subject c.index.result.now c.number.ensures
    ∙ ap (λ bs. in_order later (listed always c.args.subject c.self.inside.subjects.items bs)) c.self.invariant.ids
    ∙ ap (λ u. in_order later (standing_books u c.args.subject)) c.self.view_is in
    rw list at c.renew_ids.ensures.ids
