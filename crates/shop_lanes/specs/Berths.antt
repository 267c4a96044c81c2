-- What a berth promises of a link that it begins to serve.
use Rattle.shop_lanes.specs.declared.berth.Completed.{Completed}

-- whatever the serving leaves, this berth served these streams
abbrev pub IsServing : {B V I O P : Type 0} → (B → I → O → B → I → O → P → Type 0) → (V → Completed B I O P → Type 0) → B → I → O → V → Type 0
IsServing {B} {V} {I} {O} {P} serves gives berth source sink serving =
    (done : Completed B I O P) → gives serving done → serves berth source sink done.berth done.source done.sink done.report
