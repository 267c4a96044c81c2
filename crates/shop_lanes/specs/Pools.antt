-- Lanes that serve links of a listener.
use Rattle.std.specs.Prelude.{◌≡◌, ◌≢◌, ◌⊎◌, ℕ, ◌+◌, ◌≤◌, ◌<◌, List, [], map, length, All}
use Rattle.std.specs.Vec.{vec_len, vec_capacity}
use Rattle.shop_edges.specs.Causes.{Rose}
use Rattle.shop_places.specs.Listening.{Listening, seen_by}
use Rattle.shop_places.specs.Since.{Since, Start}
use Rattle.shop_places.specs.Visits.{Visit}
use Rattle.shop_lanes.specs.declared.berth.Berth as berth
use Rattle.shop_lanes.specs.declared.listener.PolledListener as listener
use Rattle.shop_lanes.specs.declared.pool.LanesEnd.TheVariants as ended
use Rattle.shop_lanes.specs.declared.pool.Pool.{Pool}
use Rattle.shop_lanes.specs.Berths.{IsServing}
use Rattle.shop_lanes.specs.Spots.{HasBusy, IsHere, NoneBusy, busy_lanes}

-- of a berth and a listener
abbrev pub Meanings : Type 0 → Type 0 → Type 0 → Type 0 → Type 0 → Type 0 → Type 1
Meanings L B V I O P = berth.Ghosts B I O P V × listener.Ghosts L I O

module _ {L B V P : Type 0} where
  -- links are to be accepted
  abbrev pub IsOpen : Pool L B V P → Type 0
  IsOpen pool = (pool.accepted < pool.links) × (pool.ended ≡ ended.All)

  abbrev pub IsClosed : Pool L B V P → Type 0
  IsClosed pool = (pool.links ≤ pool.accepted) ⊎ (pool.ended ≢ ended.All)

  -- all links were served that are to be accepted, or not yet
  abbrev pub IsOver : Pool L B V P → Type 0
  IsOver pool = NoneBusy pool.lanes.items × IsClosed pool

  abbrev pub IsGoing : Pool L B V P → Type 0
  IsGoing pool = HasBusy pool.lanes.items ⊎ (NoneBusy pool.lanes.items × IsOpen pool)

  -- what holds between two polls, whatever went before: no lane is lost, each link that was accepted has its report or
  -- room for it, and there is room for the berths
  pub record CanGoOn (can_poll : V → Type 0) (pool : Pool L B V P) : Type 0 where
    pub here : All (IsHere can_poll) pool.lanes.items
    pub some : 0 < length pool.lanes.items
    pub count : length pool.reports.items + busy_lanes pool.lanes.items ≡ pool.accepted
    pub room : pool.accepted ≤ vec_capacity pool.reports
    pub fits : pool.accepted ≤ pool.links
    pub unused : pool.room.items ≡ []
    pub spare : vec_len pool.room + length pool.lanes.items ≤ vec_capacity pool.room
    pub stops : (pool.ended ≡ ended.All) ⊎ (pool.accepted < pool.links)

module _ {L B V I O P : Type 0} (by : Meanings L B V I O P) where
  -- what is seen of a listener that is polled, and dials nobody
  abbrev pub seen_polled : L → Listening I O
  seen_polled = seen_by by.1.links by.1.faults by.1.accepted (λ _. 0)

  -- whom a visit was for, and its report
  abbrev pub told_of : Visit B I O P → ℕ × P
  told_of visit = (by.0.caller visit.after, visit.report)

  -- since this start these links were accepted, each under its number; those that are at no lane any more were served, in
  -- a chain at each lane, and came back, and the reports are in the order in which they did. So many links there are to be
  -- in all, and a fault of the listener is told only where its count rose
  pub record IsSince (start : Start B I O) (total : ℕ) (pool : Pool L B V P) : Type 0 where
    pub pairs : List (I × O)
    pub since : Since by.0.serves (IsServing by.0.serves by.0.gives) start pairs pool.accepted pool.lanes.items (seen_polled pool.listener)
    pub many : length pairs ≡ pool.accepted
    pub told : pool.reports.items ≡ map told_of since.visits
    pub whole : pool.links ≡ total
    pub later : start.seen.faults ≤ by.1.faults pool.listener
    pub fault : pool.ended ≡ ended.ListenerFault → Rose start.seen.faults (by.1.faults pool.listener)

  -- whatever was done since any start
  abbrev pub GoesOn : Pool L B V P → Pool L B V P → Type 0
  GoesOn old new = (start : Start B I O) (total : ℕ) → IsSince start total old → IsSince start total new
