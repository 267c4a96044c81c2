use Rattle.std.proofs.Common.{List, map, ap, ◌∙◌}
use Rattle.shop_search.specs.Growing.{greatest}
use Rattle.shop_search.specs.Titles.{TitledItem}
use Rattle.shop_search.proofs.TitledLemmas.{firsts_are_found}
use Rattle.shop_search.proofs.growing.GrowingIndex.last.Goals as goal

pub returns : goal.returns
returns c =
    c.greatest_id.ensures ∙ ap (λ (items : List TitledItem). greatest (map (λ i. i.id) items)) c.held.ensures
    ∙ ap greatest (firsts_are_found c.args.self.now.contents c.args.sought.now.kind c.args.sought.now.text)
