use Rattle.std.proofs.Common.{◌++◌, ◌∷◌, [], ap₂}
use Rattle.shop_lanes.specs.Traces.{traced}
use Rattle.shop_lanes.proofs.trace.Trace.with.Goals as goal

pub returns : goal.returns
unfolding traced
returns g c = ap₂ (λ others last. traced others ++ last ∷ []) c.of.ensures c.of-2.ensures
