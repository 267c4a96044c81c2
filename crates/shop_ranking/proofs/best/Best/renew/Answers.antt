use Rattle.std.proofs.Common.{◌≡◌, ap, ◌∙◌, Vec, Global}
use Rattle.shop_model.specs.lists.Rankings.{Sale, in_order, better}
use Rattle.shop_ranking.specs.StandingBest.{standing_best, standing_sales}
use Rattle.shop_ranking.proofs.best.Best.renew.Goals as goal

pub returns-clause-ids : goal.returns-clause-ids
unfolding standing_best
returns-clause-ids c =
    let list : c.deref.result.now ≡ in_order better (standing_sales c.args.self.now c.args.subject) =
    c.deref.ensures.value ∙ ap (λ (list : Vec Sale Global). list.items) c.index.ensures
    ∙ c.self.invariant.rankings.each c.number.result c.args.subject c.index.result.now c.number.ensures
    ∙ ap (λ u. in_order better (standing_sales u c.args.subject)) c.self.view_is in
    rw list at c.renew_ids.ensures.ids
