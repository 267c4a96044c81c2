-- What lanes leave that have served their links.
use Rattle.std.specs.Prelude.{◌≡◌, ◌≢◌, ℕ, ◌≤◌, ◌<◌, map, length, IfSome, IsSomeAnd}
use Rattle.futures.specs.declared.task.context.Context.{Context}
use Rattle.shop_edges.specs.Causes.{Rose}
use Rattle.shop_places.specs.Outcomes.{AreDone}
use Rattle.shop_places.specs.Since.{Start}
use Rattle.shop_lanes.specs.declared.lanes.Landed.{Landed}
use Rattle.shop_lanes.specs.declared.lanes.Lanes.{Lanes}
use Rattle.shop_lanes.specs.declared.pool.LanesEnd.TheVariants as ended
use Rattle.shop_lanes.specs.declared.pool.Pool.{Pool}
use Rattle.shop_lanes.specs.Pools.{CanGoOn, IsClosed, IsSince, Meanings, seen_polled, told_of}
use Rattle.shop_lanes.specs.Waits.{IsPutOff, NeedsOf}

module _ {L B V P : Type 0} where
  -- they have not ended, and may be polled
  abbrev pub CanPoll : (V → Type 0) → Lanes L B V P → Type 0
  CanPoll can_poll lanes = IsSomeAnd lanes.pool (CanGoOn can_poll)

module _ {L B V I O P : Type 0} (by : Meanings L B V I O P) where
  -- since this start so many links were served: each once, from the streams that came under its number, and what is left
  -- of them came back under it; the visits of a lane lead from its first berth to its last. The reports are in the order
  -- in which the links came back. All links there were to be were served, or fewer, and then it is told why
  pub record IsLanding (start : Start B I O) (total : ℕ) (landed : Landed L B P) : Type 0 where
    pub served : ℕ
    pub done : AreDone by.0.serves served 0 start.stations landed.berths.items start.seen (seen_polled by landed.listener)
    pub told : landed.reports.items ≡ map (told_of by) done.visits
    pub reported : length landed.reports.items ≡ served
    pub all : landed.ended ≡ ended.All → served ≡ total
    pub fewer : landed.ended ≢ ended.All → served < total
    pub later : start.seen.faults ≤ by.1.faults landed.listener
    pub fault : landed.ended ≡ ended.ListenerFault → Rose start.seen.faults (by.1.faults landed.listener)

  -- whatever they met, they have served their links when they end; where no more are accepted, just those that were
  abbrev pub Lands : Pool L B V P → Landed L B P → Type 0
  Lands pool landed =
      ((start : Start B I O) (total : ℕ) → IsSince by start total pool → IsLanding start total landed)
      × (IsClosed pool → length landed.reports.items ≡ pool.accepted)

  abbrev pub Gives : Lanes L B V P → Landed L B P → Type 0
  Gives lanes landed = IfSome lanes.pool (λ pool. Lands pool landed)

  abbrev pub Needs : Lanes L B V P → ℕ → Type 0
  Needs lanes event = IsSomeAnd lanes.pool (λ pool. NeedsOf by pool event)

  abbrev pub ArePutOff : Lanes L B V P → Lanes L B V P → Context → Type 0
  ArePutOff old new cx = IfSome old.pool (λ before. IsSomeAnd new.pool (λ after. IsPutOff by before after cx))

  -- they have met nothing since this start
  abbrev pub IsBegun : Start B I O → ℕ → Lanes L B V P → Type 0
  IsBegun start total lanes = IsSomeAnd lanes.pool (IsSince by start total)
