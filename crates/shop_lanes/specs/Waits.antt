-- What a poll of lanes waits for, and why it is put off.
use Rattle.std.specs.Prelude.{◌≡◌, ◌⊎◌, ℕ, ◌<◌, length, true}
use Rattle.futures.specs.declared.task.context.Context.{Context}
use Rattle.shop_edges.specs.Causes.{Rose}
use Rattle.shop_places.specs.Spots.{IsFree}
use Rattle.shop_places.specs.declared.spot.Spot.{Spot}
use Rattle.shop_places.specs.declared.spot.Spot.TheVariants.{Free, Busy, Gone}
use Rattle.shop_lanes.specs.declared.pool.Pool.{Pool}
use Rattle.shop_lanes.specs.Berths.{IsServing}
use Rattle.shop_lanes.specs.Pools.{IsOpen, Meanings}
use Rattle.shop_lanes.specs.Spots.{lane_at}

module _ {L B V P : Type 0} where
  -- links are to be accepted, and a lane is free for one
  abbrev pub IsWaiting : Pool L B V P → Type 0
  IsWaiting pool = IsOpen pool × ((at : ℕ) × IsFree (lane_at at pool.lanes.items))

  -- a link was served, and its report is there
  abbrev pub HasMore : Pool L B V P → Pool L B V P → Type 0
  HasMore old new = length old.reports.items < length new.reports.items

module _ {L B V I O P : Type 0} (by : Meanings L B V I O P) where
  -- a lane serves a link that waits for this event, or the lanes wait for a link
  abbrev pub NeedsOf : Pool L B V P → ℕ → Type 0
  NeedsOf pool event =
      ((at : ℕ) × (link : ℕ) × (serving : V) × (lane_at at pool.lanes.items ≡ Busy link serving) × by.0.needs serving event)
      ⊎ (IsWaiting pool × by.1.needs pool.listener event)

  -- this berth begins to serve a link
  abbrev pub Begins : B → V → Type 0
  Begins berth serving = by.0.can_poll serving × ((source : I) × (sink : O) × IsServing by.0.serves by.0.gives berth source sink serving)

  -- a lane that had this before the poll serves a link in it: the one that it served, or one that it begins with
  abbrev pub ServesIn : Spot B V → V → Type 0
  ServesIn (Free berth) serving = Begins berth serving
  ServesIn (Busy link now) serving = now ≡ serving
  ServesIn Gone serving = ⊥

  -- what a lane serves was put off in the poll
  abbrev pub IsLanePutOff : Pool L B V P → Pool L B V P → Type 0
  IsLanePutOff old new = (at : ℕ) × (link : ℕ) × (before : V) × (after : V)
      × ServesIn (lane_at at old.lanes.items) before × (lane_at at new.lanes.items ≡ Busy link after) × by.0.puts_off before after

  -- a poll is put off only where the listener or what a lane serves was, or where a link was served; then its task is
  -- polled again
  abbrev pub IsPutOff : Pool L B V P → Pool L B V P → Context → Type 0
  IsPutOff old new cx = Rose (by.1.waits old.listener) (by.1.waits new.listener) ⊎ (IsLanePutOff old new ⊎ (HasMore old new × (cx.is_woken ≡ true)))
