-- What a caller of a gateway that notes concludes from what was told through it.
use Rattle.std.proofs.Common.{◌≡◌, ◌∙◌, List, [], ◌++◌, Some, ap, refl}
use Rattle.shop_edges.specs.Gateways.{Answered}
use Rattle.shop_edges.specs.declared.gateway.Answer.{Answer}

-- where nothing was noted, all that is noted is what was told since
pub all_told : (before all more : List Answer) → before ≡ [] → Answered (Some before) (Some all) more → all ≡ more
all_told before all more none since =
    let told : Some all ≡ Some (before ++ more) = since.told before refl in
    let same : all ≡ before ++ more = cc in
    same ∙ ap (λ (front : List Answer). front ++ more) none
