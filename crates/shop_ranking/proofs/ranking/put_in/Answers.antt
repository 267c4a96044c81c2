use Rattle.std.proofs.Common.{◌≡◌, ◌∙◌, rules}
use Rattle.std.specs.List.{insert}
use Rattle.shop_ranking.specs.Order.{Passes}
use Rattle.shop_ranking.proofs.Putting.{place_put}
use Rattle.shop_ranking.proofs.ranking.put_in.Goals as goal

pub returns-clause-items : goal.returns-clause-items
returns-clause-items g c =
    let order = g.T.Ranked.order in let x = c.args.element in let xs = c.args.list.now.items in
    let same : c.deref.result.now ≡ xs = c.deref.ensures.value in
    let passes : Passes order x xs c.place_in-place.result = rw same at c.place_in-place.ensures.passes in
    let is : c.insert.new.self.items ≡ insert xs c.place_in-place.result x = search rules in
    is ∙ place_put order x xs c.place_in-place.result (rw same at c.place_in-place.ensures.within) passes
