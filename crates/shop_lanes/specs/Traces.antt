-- Lists that contracts alone see.
use Rattle.std.specs.Prelude.{List, [], ◌∷◌, ◌++◌}
use Rattle.shop_lanes.specs.declared.trace.Trace.{Trace, Empty, Behind'}

unfoldable pub traced : {T : Type 0} → Trace T → List T
traced Empty = []
traced (Behind' shape others last) = traced others ++ last.value ∷ []
