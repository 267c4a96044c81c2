use Rattle.std.proofs.Common.{◌≡◌, [], List, map, take, ◌∙◌, subst, IfOk}
use Rattle.shop_model.specs.lists.Rankings.{in_order}
use Rattle.shop_model.specs.rows.Limits.{list_limit}
use Rattle.shop_search.specs.Titles.{TitledItem, by_titled}
use Rattle.shop_search.proofs.TitledLemmas.{none_in_order}
use Rattle.shop_search.proofs.titled.merge.Goals as goal

pub put_all-requires-clause-order : goal.put_all-requires-clause-order
put_all-requires-clause-order c = ([], none_in_order c.in_ok-both.both.items c.in_ok-both.ensures.items)

pub put_all-requires-2-clause-order : goal.put_all-requires-2-clause-order
put_all-requires-2-clause-order c =
    (c.args.first.now, c.in_ok-reserve.ensures.items ∙ c.put_all.ensures.order [] (none_in_order c.in_ok-both.both.items c.in_ok-both.ensures.items))

pub returns : goal.returns
returns c =
    let first : c.reserve.new.self.items ≡ in_order by_titled c.args.first.now =
    c.in_ok-reserve.ensures.items ∙ c.put_all.ensures.order [] (none_in_order c.in_ok-both.both.items c.in_ok-both.ensures.items) in
    subst (λ (items : List TitledItem). IfOk c.first_ids.result (λ ids. ids ≡ map (λ t. t.id) (take list_limit items)))
    (c.deref.ensures.value ∙ c.put_all-2.ensures.order c.args.first.now first) c.first_ids.ensures
