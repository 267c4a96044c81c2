-- What is done at lanes in a poll, one lane after another.
use Rattle.std.specs.Prelude.{◌≡◌, ◌≢◌, ◌⊎◌, ℕ, ◌+◌, ◌≤◌, ◌<◌, List, [], ◌∷◌, ◌++◌, length, set, Option, Some, None}
use Rattle.std.specs.Vec.{vec_capacity}
use Rattle.futures.specs.Task.{Covers}
use Rattle.futures.specs.declared.task.Poll.{Poll}
use Rattle.futures.specs.declared.task.Poll.TheVariants.{Ready, Pending}
use Rattle.futures.specs.declared.task.context.Context.{Context}
use Rattle.shop_edges.specs.Causes.{Rose}
use Rattle.shop_places.specs.Listening.{Gave, GaveNone, TookBack}
use Rattle.shop_places.specs.declared.spot.Spot.{Spot}
use Rattle.shop_places.specs.declared.spot.Spot.TheVariants.{Free, Busy, Gone}
use Rattle.shop_lanes.specs.declared.berth.Berth as berth
use Rattle.shop_lanes.specs.declared.berth.Completed.{Completed}
use Rattle.shop_lanes.specs.declared.pool.LanesEnd.TheVariants as ended
use Rattle.shop_lanes.specs.declared.pool.Pool.{Pool}
use Rattle.shop_lanes.specs.Berths.{IsServing}
use Rattle.shop_lanes.specs.Pools.{IsClosed, Meanings, seen_polled}
use Rattle.shop_lanes.specs.Spots.{lane_at}
use Rattle.shop_lanes.specs.Waits.{Begins, HasMore, IsWaiting}

module _ {B V I O P : Type 0} (by : berth.Ghosts B I O P V) where
  -- what a lane serves was put off, and where it serves nothing it stays
  abbrev pub TurnsOn : Context → Spot B V → Spot B V → Type 0
  TurnsOn cx (Free berth) new = new ≡ Free berth
  TurnsOn cx (Busy link serving) new = (serving' : V) × (new ≡ Busy link serving') × by.can_poll serving'
      × ((done : Completed B I O P) → by.gives serving' done → by.gives serving done) × by.puts_off serving serving' × Covers cx (by.needs serving')
  TurnsOn cx Gone new = new ≡ Gone

  -- what it serves has ended in its turn
  abbrev pub EndsTurn : Spot B V → Spot B V → Type 0
  EndsTurn (Free berth) new = ⊥
  EndsTurn (Busy link serving) new = (serving' : V) × (new ≡ Busy link serving') × by.has_ended serving'
      × ((done : Completed B I O P) → by.gives serving' done → by.gives serving done)
  EndsTurn Gone new = ⊥

  abbrev pub HasEnded : Spot B V → Type 0
  HasEnded (Free berth) = ⊥
  HasEnded (Busy link serving) = by.has_ended serving
  HasEnded Gone = ⊥

  -- a lane has served its link
  abbrev pub Completes : Spot B V → ℕ × Completed B I O P → Type 0
  Completes lane ended = (serving : V) × (lane ≡ Busy ended.0 serving) × by.gives serving ended.1

  -- a lane had its turn: what it serves was put off, or was served, and where it serves nothing it stays
  abbrev pub HadTurn : Context → Type 0 → Spot B V → Spot B V → Type 0
  HadTurn cx served (Free berth) new = new ≡ Free berth
  HadTurn cx served (Busy link serving) (Free berth) = served
  HadTurn cx served (Busy link serving) (Busy link' serving') = by.puts_off serving serving' × Covers cx (by.needs serving')
  HadTurn cx served (Busy link serving) Gone = ⊥
  HadTurn cx served Gone new = new ≡ Gone

module _ {L B V P : Type 0} where
  -- the lanes stay, and so do the reports, for which there may be more room
  abbrev pub KeepsLanes : Pool L B V P → Pool L B V P → Type 0
  KeepsLanes old new = (new ≡ record old { listener = new.listener; reports = new.reports; ended = new.ended })
      × (new.reports.items ≡ old.reports.items) × (vec_capacity old.reports ≤ vec_capacity new.reports)

  -- nothing was done but what is told in reports
  pub record OnlyReports (old new : Pool L B V P) : Type 0 where
    pub more : length old.reports.items ≤ length new.reports.items
    pub listener : HasMore old new ⊎ (new.listener ≡ old.listener)
    pub accepted : new.accepted ≡ old.accepted
    pub links : new.links ≡ old.links
    pub ended : new.ended ≡ old.ended

module _ {L B V I O P : Type 0} (by : Meanings L B V I O P) where
  -- a link was accepted, and there is room for its report; or it is noted why none is; or it is waited for
  abbrev pub AcceptsAs : Pool L B V P → Pool L B V P → Context → Poll (Option (I × O)) → Type 0
  AcceptsAs old new cx (Ready (Some link)) =
      Gave link (seen_polled by old.listener) (seen_polled by new.listener) × (new.ended ≡ old.ended) × (old.accepted < vec_capacity new.reports)
  AcceptsAs old new cx (Ready None) =
      GaveNone (seen_polled by old.listener) (seen_polled by new.listener) × (new.ended ≢ ended.All)
      × (new.ended ≡ ended.ListenerFault → Rose (by.1.faults old.listener) (by.1.faults new.listener))
  AcceptsAs old new cx Pending =
      GaveNone (seen_polled by old.listener) (seen_polled by new.listener) × (new.ended ≡ old.ended)
      × Rose (by.1.waits old.listener) (by.1.waits new.listener) × Covers cx (by.1.needs new.listener)

  -- the berth of a free lane begins to serve a link
  pub record BeginsAt (at : ℕ) (link : I × O) (old new : Pool L B V P) : Type 0 where
    pub berth : B
    pub serving : V
    pub free : lane_at at old.lanes.items ≡ Free berth
    pub can_poll : by.0.can_poll serving
    pub serves : IsServing by.0.serves by.0.gives berth link.0 link.1 serving
    pub lanes : new.lanes.items ≡ set old.lanes.items at (Busy (old.accepted + 1) serving)
    pub others : new ≡ record old { lanes = new.lanes; accepted = old.accepted + 1 }

  -- a lane stays, or begins to serve a link
  abbrev pub Began : Spot B V → Spot B V → Type 0
  Began (Free berth) (Busy link serving) = Begins by berth serving
  Began _ _ = ⊥

  abbrev pub MayBegin : Spot B V → Spot B V → Type 0
  MayBegin old new = (new ≡ old) ⊎ Began old new

  -- one lane may begin to serve a link
  pub record AcceptsAt (at : ℕ) (old new : Pool L B V P) : Type 0 where
    pub only : new.lanes.items ≡ set old.lanes.items at (lane_at at new.lanes.items)
    pub begun : MayBegin (lane_at at old.lanes.items) (lane_at at new.lanes.items)
    pub closed : IsClosed old → new ≡ old
    pub reports : new.reports.items ≡ old.reports.items
    pub later : by.1.waits old.listener ≤ by.1.waits new.listener

  -- any lane may
  pub record Accepts (old new : Pool L B V P) : Type 0 where
    pub size : length new.lanes.items ≡ length old.lanes.items
    pub begun : (at : ℕ) → MayBegin (lane_at at old.lanes.items) (lane_at at new.lanes.items)
    pub closed : IsClosed old → new ≡ old
    pub reports : new.reports.items ≡ old.reports.items
    pub later : by.1.waits old.listener ≤ by.1.waits new.listener

  -- where a link is waited for, the listener put it off
  abbrev pub AwaitsLink : Pool L B V P → Pool L B V P → Context → Type 0
  AwaitsLink old new cx = IsWaiting new → Rose (by.1.waits old.listener) (by.1.waits new.listener) × Covers cx (by.1.needs new.listener)

  -- a lane has served its link: it is free, the report is told, and the link came back
  pub record IsFreed (old new : Spot B V) (before after : List (ℕ × P)) (listener listener' : L) : Type 0 where
    pub link : ℕ
    pub done : Completed B I O P
    pub completes : Completes by.0 old (link, done)
    pub free : new ≡ Free done.berth
    pub told : after ≡ before ++ (by.0.caller done.berth, done.report) ∷ []
    pub back : TookBack (record { link = link; source = done.source; sink = done.sink }) (seen_polled by listener) (seen_polled by listener')

  -- one lane had its turn
  pub record TurnAt (at : ℕ) (old new : Pool L B V P) (cx : Context) : Type 0 where
    pub only : new.lanes.items ≡ set old.lanes.items at (lane_at at new.lanes.items)
    pub turned : HadTurn by.0 cx (HasMore old new) (lane_at at old.lanes.items) (lane_at at new.lanes.items)
    pub reports : OnlyReports old new

  -- so many lanes had their turn, the first ones
  pub record Turns (count : ℕ) (old new : Pool L B V P) (cx : Context) : Type 0 where
    pub size : length new.lanes.items ≡ length old.lanes.items
    pub turned : (at : ℕ) → at < count → HadTurn by.0 cx (HasMore old new) (lane_at at old.lanes.items) (lane_at at new.lanes.items)
    pub others : (at : ℕ) → count ≤ at → lane_at at new.lanes.items ≡ lane_at at old.lanes.items
    pub reports : OnlyReports old new
