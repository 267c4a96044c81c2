use Rattle.std.proofs.Common.{◌∙◌, arith}
use Rattle.shop_ranking.specs.Order.{Passes}
use Rattle.shop_ranking.proofs.Putting.{taken}
use Rattle.shop_ranking.proofs.ranking.take_out.Goals as goal

pub remove-requires : goal.remove-requires
remove-requires g c =
    let order = g.T.Ranked.order in let x = c.args.element.now in let xs = c.args.list.now.items in
    let passes : Passes order x xs c.place_in-place.result = rw c.deref.ensures.value at c.place_in-place.ensures.passes in
    let at = taken order c.requires.order x xs c.requires.among.others c.place_in-place.result c.requires.among.is passes in
    omega (arith, at.within, c.args.list.now.ok.0)

pub returns-clause-element : goal.returns-clause-element
returns-clause-element g c =
    let order = g.T.Ranked.order in let x = c.args.element.now in let xs = c.args.list.now.items in
    let passes : Passes order x xs c.place_in-place.result = rw c.deref.ensures.value at c.place_in-place.ensures.passes in
    let at = taken order c.requires.order x xs c.requires.among.others c.place_in-place.result c.requires.among.is passes in
    c.remove.ensures.value ∙ at.here c.remove.result

pub returns-clause-others : goal.returns-clause-others
returns-clause-others g c = λ others is.
    let order = g.T.Ranked.order in let x = c.args.element.now in let xs = c.args.list.now.items in
    let passes : Passes order x xs c.place_in-place.result = rw c.deref.ensures.value at c.place_in-place.ensures.passes in
    let at = taken order c.requires.order x xs others c.place_in-place.result is passes in
    c.remove.ensures.items ∙ at.rest
