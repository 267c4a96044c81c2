-- Lanes of workers at desks.
use Rattle.std.specs.Prelude.{◌≡◌, ℕ, List, [], Option}
use Rattle.std.specs.List.{AllZip}
use Rattle.shop_engine.specs.declared.report.Report.{Report}
use Rattle.shop_engine.specs.Workers.{WorkerState}
use Rattle.shop_lanes.specs.declared.lanes.Landed.{Landed}
use Rattle.shop_lanes.specs.declared.lanes.Lanes.{Lanes}
use Rattle.shop_lanes.specs.Landings.{IsBegun, IsLanding}
use Rattle.shop_lanes.specs.Pools.{Meanings, seen_polled}
use Rattle.shop_tasks.specs.StationValues.{StationValue}
use Rattle.shop_tasks.specs.declared.till.Till.TheVariants.{Own}
use Rattle.shop_turn.specs.Desks.{DeskValue}

module _ {C S K : Type 0} (readings : C → Option (List ℕ)) where
  -- the station of a worker, with a clock that reads so, and a gateway whose ledger is empty
  pub record IsStation (clock : Option (List ℕ)) (worker : WorkerState DeskValue) (station : StationValue C S K) : Type 0 where
    pub worker_is : station.worker ≡ record worker { reply = [] }
    pub clock_is : readings station.clock ≡ clock
    pub till_is : station.till ≡ Own (record { ledger = []; answers = [] })

  abbrev pub AreStations : Option (List ℕ) → List (WorkerState DeskValue) → List (StationValue C S K) → Type 0
  AreStations clock = AllZip (IsStation clock)

-- they begin with the stations of these workers, and have met nothing
pub record BeginWith {L V C S K : Type 0} (by : Meanings L (StationValue C S K) V S K Report) (readings : C → Option (List ℕ)) (clock : Option (List ℕ))
    (workers : List (WorkerState DeskValue)) (listener : L) (links : ℕ) (lanes : Lanes L (StationValue C S K) V Report) : Type 0 where
  pub stations : List (StationValue C S K)
  pub are : AreStations readings clock workers stations
  pub begun : IsBegun by (record { stations = stations; seen = seen_polled by listener }) links lanes

-- they began with the stations of these workers, and have served so many links, or stopped
pub record HaveLanded {L V C S K : Type 0} (by : Meanings L (StationValue C S K) V S K Report) (readings : C → Option (List ℕ)) (clock : Option (List ℕ))
    (workers : List (WorkerState DeskValue)) (listener : L) (links : ℕ) (landed : Landed L (StationValue C S K) Report) : Type 0 where
  pub stations : List (StationValue C S K)
  pub are : AreStations readings clock workers stations
  pub landing : IsLanding by (record { stations = stations; seen = seen_polled by listener }) links landed
