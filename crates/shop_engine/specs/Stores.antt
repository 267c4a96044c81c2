-- What calls keep of a store, and lists that are fresh by what it marks.
use Rattle.std.specs.Prelude.{List, All}
use Rattle.shop_attempt.specs.declared.store.Store.{Ghosts}
use Rattle.shop_attempt.specs.Marks.{KeepsMarks}
use Rattle.shop_engine.specs.declared.report.Point.{Point}
use Rattle.shop_engine.specs.Lists.{IsFreshPoint}

-- calls kept the marks of a store, as marks of the log seen
abbrev pub Keeps : {St : Type 0} → Ghosts St → St → St → Type 0
Keeps store old new = KeepsMarks (store.marked old) (store.marked new) (store.seat old) (store.seat new)

-- where the point is of a list that was kept, the list is fresh by what the store marks
abbrev pub IsFreshBy : {St : Type 0} → Ghosts St → St → Point → Type 0
IsFreshBy store now point = IsFreshPoint (store.marked now) (store.seat now).seen point

abbrev pub AreFreshBy : {St : Type 0} → Ghosts St → St → List Point → Type 0
AreFreshBy store now points = All (IsFreshBy store now) points
