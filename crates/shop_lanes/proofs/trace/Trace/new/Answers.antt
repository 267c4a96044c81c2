use Rattle.std.proofs.Common.{refl}
use Rattle.shop_lanes.specs.Traces.{traced}
use Rattle.shop_lanes.proofs.trace.Trace.new.Goals as goal

pub returns : goal.returns
unfolding traced
returns g c = refl
