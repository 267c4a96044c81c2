use Rattle.std.proofs.Common.{◌≡◌, ℕ, List, IfOk, subst}
use Rattle.shop_search.proofs.TitledLemmas.{ids_found}
use Rattle.shop_search.proofs.growing.GrowingIndex.sought.Goals as goal

pub returns : goal.returns
returns c =
    subst (λ (found : List ℕ). IfOk c.first_ids.result (λ ids. ids ≡ found))
    (ids_found c.args.self.now.contents c.args.sought.now.kind c.args.sought.now.text c.held.result.now c.held.ensures) c.first_ids.ensures
