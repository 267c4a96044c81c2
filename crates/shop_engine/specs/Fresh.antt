-- A list that was kept is fresh, by the log alone.
use Rattle.std.specs.Prelude.{List}
use Rattle.shop_history.specs.declared.acts.Entry.{Entry}
use Rattle.shop_engine.specs.declared.report.Point.{Point}
use Rattle.shop_engine.specs.declared.report.PointKind.{PointKind}
use Rattle.shop_engine.specs.declared.report.PointKind.TheVariants as kind
use Rattle.shop_engine.specs.Lists.{IsFresh}

abbrev pub IsFreshInAs : List Entry → Point → PointKind → Type 0
IsFreshInAs log point kind.List = IsFresh log point.front point.moment
IsFreshInAs log point _ = Unit {0}

-- so without the store
abbrev pub IsFreshIn : List Entry → Point → Type 0
IsFreshIn log point = IsFreshInAs log point point.kind
