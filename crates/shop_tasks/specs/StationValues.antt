-- What contracts see of a station.
use Rattle.shop_engine.specs.Workers.{WorkerState}
use Rattle.shop_turn.specs.Desks.{DeskValue}
use Rattle.shop_tasks.specs.declared.till.Till.{Till}

-- its worker, whose last reply is not kept, the clock that the worker reads, and the till that takes its payments
pub record StationValue (C I O : Type 0) : Type 0 where
  pub worker : WorkerState DeskValue
  pub clock : C
  pub till : Till I O

abbrev pub desk_of : {C I O : Type 0} → StationValue C I O → DeskValue
desk_of station = station.worker.store

abbrev pub station_of : {C I O : Type 0} → WorkerState DeskValue → C → Till I O → StationValue C I O
station_of worker clock till = record { worker = worker; clock = clock; till = till }
