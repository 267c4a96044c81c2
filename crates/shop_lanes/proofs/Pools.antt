-- Lanes that serve links, one step after another.
use Rattle.std.proofs.Common.{◌≡◌, ◌⊎◌, ⊎_elim, ℕ, ◌+◌, ◌≤◌, ◌<◌, List, [], ◌∷◌, ◌++◌, map, length, set, refl, sym, ap, ap₂, ◌∙◌, arith, inl, inr, length-append, length-set}
use Rattle.std.specs.Vec.{vec_capacity}
use Rattle.std.proofs.lemmas.List.{map-append, set-get_or}
use Rattle.futures.specs.declared.task.context.Context.{Context}
use Rattle.std.proofs.lemmas.List.Elements.{All-same, All-set}
use Rattle.std.proofs.lemmas.List.Sums.{sum_by-set}
use Rattle.shop_edges.specs.Causes.{Rose}
use Rattle.shop_places.specs.Listening.{Gave, GaveNone, Listening, TookBack}
use Rattle.shop_places.specs.Since.{Since, Start}
use Rattle.shop_places.specs.Visits.{Visit}
use Rattle.shop_places.specs.declared.spot.Spot.{Spot}
use Rattle.shop_places.specs.declared.spot.Spot.TheVariants.{Free, Busy, Gone}
use Rattle.shop_lanes.specs.declared.berth.Completed.{Completed}
use Rattle.shop_lanes.specs.declared.pool.LanesEnd.TheVariants as ended
use Rattle.shop_lanes.specs.declared.pool.Pool.{Pool}
use Rattle.shop_lanes.specs.Berths.{IsServing}
use Rattle.shop_lanes.specs.Pools.{CanGoOn, IsClosed, IsOpen, IsSince, Meanings, seen_polled, told_of}
use Rattle.shop_lanes.specs.Spots.{IsHere, busy_lanes, busy_one, lane_at}
use Rattle.shop_lanes.specs.Turns.{BeginsAt, KeepsLanes, TurnsOn}
use Rattle.shop_lanes.proofs.Since.{since_began, since_none, since_of, since_on, since_served}

-- one lane is set
count_set : {B V : Type 0} (lanes : List (Spot B V)) (at : ℕ) (lane : Spot B V) → at < length lanes → busy_lanes (set lanes at lane) + busy_one (lane_at at lanes) ≡ busy_lanes lanes + busy_one lane
count_set lanes at lane inside = sum_by-set busy_one lanes at lane Gone inside

-- lanes whose end is not known yet have met no fault
pub no_fault : {A : Type 0} → ended.All ≡ ended.ListenerFault → A
no_fault is = absurd cc

pub open_closed : {A L B V P : Type 0} (pool : Pool L B V P) → IsOpen pool → IsClosed pool → A
open_closed pool is_open (inl most) = absurd (omega (arith, is_open.0, most))
open_closed pool is_open (inr ended) = absurd (ended is_open.1)

module _ {L B V P : Type 0} (can_poll : V → Type 0) (old new : Pool L B V P) (live : CanGoOn can_poll old) where
  -- the lanes stay
  pub live_keeps : KeepsLanes old new → (new.ended ≡ ended.All) ⊎ (old.accepted < old.links) → CanGoOn can_poll new
  live_keeps keeps stops =
      let lanes = ap (λ p. p.lanes.items) keeps.0 in
      let accepted = ap (λ p. p.accepted) keeps.0 in
      let links = ap (λ p. p.links) keeps.0 in
      record {
        here = All-same (IsHere can_poll) new.lanes.items old.lanes.items lanes live.here;
        some = omega (arith, live.some, ap length lanes);
        count = omega (arith, live.count, ap length keeps.1, ap busy_lanes lanes, accepted);
        room = omega (arith, live.room, keeps.2, accepted);
        fits = omega (arith, live.fits, accepted, links);
        unused = ap (λ p. p.room.items) keeps.0 ∙ live.unused;
        spare = rw keeps.0 live.spare;
        stops = rw (accepted, links) stops;
      }

  module _ (at : ℕ) (lane : Spot B V) (inside : at < length old.lanes.items) (only : new.lanes.items ≡ set old.lanes.items at lane) (here : IsHere can_poll lane) where
    -- a lane is set
    pub live_set : length new.reports.items + busy_one lane ≡ length old.reports.items + busy_one (lane_at at old.lanes.items) → vec_capacity old.reports ≤ vec_capacity new.reports
        → new.accepted ≡ old.accepted → new.links ≡ old.links → new.ended ≡ old.ended → new.room ≡ old.room → CanGoOn can_poll new
    live_set reports fits accepted links ended room = record {
      here = All-same (IsHere can_poll) new.lanes.items (set old.lanes.items at lane) only (All-set (IsHere can_poll) old.lanes.items at lane here live.here);
      some = omega (arith, live.some, ap length only, length-set old.lanes.items at lane);
      count = omega (arith, live.count, reports, accepted, ap busy_lanes only, count_set old.lanes.items at lane inside);
      room = omega (arith, live.room, fits, accepted);
      fits = omega (arith, live.fits, accepted, links);
      unused = ap (λ r. r.items) room ∙ live.unused;
      spare = rw room (omega (arith, live.spare, ap length only, length-set old.lanes.items at lane));
      stops = rw (accepted, links, ended) live.stops;
    }

module _ {L B V I O P : Type 0} (by : Meanings L B V I O P) where
  module _ (at : ℕ) (link : I × O) (old mid new : Pool L B V P) (keeps : KeepsLanes old mid) (same : mid.ended ≡ old.ended) (inside : at < length old.lanes.items) (begins : BeginsAt by at link mid new) where
    pub only_began : new.lanes.items ≡ set old.lanes.items at (Busy (old.accepted + 1) begins.serving)
    only_began = begins.lanes ∙ ap₂ (λ (l : List (Spot B V)) (n : ℕ). set l at (Busy (n + 1) begins.serving)) (ap (λ p. p.lanes.items) keeps.0) (ap (λ p. p.accepted) keeps.0)

    accepted_began : new.accepted ≡ old.accepted + 1
    accepted_began = ap (λ p. p.accepted) begins.others ∙ ap (λ p. p.accepted + 1) keeps.0

    links_began : new.links ≡ old.links
    links_began = ap (λ p. p.links) begins.others ∙ ap (λ p. p.links) keeps.0

    reports_began : new.reports.items ≡ old.reports.items
    reports_began = ap (λ p. p.reports.items) begins.others ∙ keeps.1

    ended_began : new.ended ≡ old.ended
    ended_began = ap (λ p. p.ended) begins.others ∙ same

    pub free_began : lane_at at old.lanes.items ≡ Free begins.berth
    free_began = sym (ap (λ p. lane_at at p.lanes.items) keeps.0) ∙ begins.free

    -- a link was accepted, and is served at a lane
    pub live_began : CanGoOn by.0.can_poll old → IsOpen old → old.accepted < vec_capacity mid.reports → CanGoOn by.0.can_poll new
    live_began live is_open room = record {
      here = All-same (IsHere by.0.can_poll) new.lanes.items (set old.lanes.items at (Busy (old.accepted + 1) begins.serving)) only_began
          (All-set (IsHere by.0.can_poll) old.lanes.items at (Busy (old.accepted + 1) begins.serving) begins.can_poll live.here);
      some = omega (arith, inside, ap length only_began, length-set old.lanes.items at (Busy (old.accepted + 1) begins.serving));
      count = omega (
        arith,
        live.count,
        ap length reports_began,
        accepted_began,
        ap busy_lanes only_began,
        count_set old.lanes.items at (Busy (old.accepted + 1) begins.serving) inside,
        ap busy_one free_began,
      );
      room = omega (arith, room, accepted_began, ap (λ p. vec_capacity p.reports) begins.others);
      fits = omega (arith, is_open.0, accepted_began, links_began);
      unused = ap (λ p. p.room.items) begins.others ∙ ap (λ p. p.room.items) keeps.0 ∙ live.unused;
      spare = rw (ap (λ p. p.room) begins.others, ap (λ p. p.room) keeps.0)
          (omega (arith, live.spare, ap length only_began, length-set old.lanes.items at (Busy (old.accepted + 1) begins.serving)));
      stops = inl (ended_began ∙ is_open.1);
    }

  module _ (start : Start B I O) (total : ℕ) where
    -- by the parts of the lanes
    pub since_from : (pairs : List (I × O)) (started : ℕ) (lanes : List (Spot B V)) (seen : Listening I O) (since : Since by.0.serves (IsServing by.0.serves by.0.gives) start pairs started lanes seen)
        → (new : Pool L B V P) → new.accepted ≡ started → new.lanes.items ≡ lanes → seen_polled by new.listener ≡ seen → length pairs ≡ started
        → new.reports.items ≡ map (told_of by) since.visits → new.links ≡ total → start.seen.faults ≤ by.1.faults new.listener
        → (new.ended ≡ ended.ListenerFault → Rose start.seen.faults (by.1.faults new.listener)) → IsSince by start total new
    since_from pairs started lanes seen since new accepted only listener many told whole later fault =
        let same = since_of by.0.serves (IsServing by.0.serves by.0.gives) start pairs started new.accepted lanes new.lanes.items seen (seen_polled by new.listener) accepted only listener since in
        record {
          pairs = pairs;
          since = same.0;
          many = many ∙ sym accepted;
          told = told ∙ ap (map (told_of by)) (sym same.1);
          whole = whole;
          later = later;
          fault = fault;
        }

    module _ (old : Pool L B V P) (since : IsSince by start total old) where
      -- no link was accepted
      pub since_keeps : (new : Pool L B V P) → KeepsLanes old new → GaveNone (seen_polled by old.listener) (seen_polled by new.listener)
          → (new.ended ≡ ended.ListenerFault → (old.ended ≡ ended.ListenerFault) ⊎ Rose (by.1.faults old.listener) (by.1.faults new.listener)) → IsSince by start total new
      since_keeps new keeps gave fault =
          let next = since_none by.0.serves (IsServing by.0.serves by.0.gives) start since.pairs old.accepted old.lanes.items (seen_polled by old.listener) (seen_polled by new.listener) since.since gave in
          since_from since.pairs old.accepted old.lanes.items (seen_polled by new.listener) next.0
          new (ap (λ p. p.accepted) keeps.0) (ap (λ p. p.lanes.items) keeps.0) refl since.many (keeps.1 ∙ since.told ∙ ap (map (told_of by)) (sym next.1)) (ap (λ p. p.links) keeps.0 ∙ since.whole)
          (omega (arith, since.later, gave.later))
          (λ is. ⊎_elim (λ was. omega (arith, since.fault was, gave.later)) (λ rose. omega (arith, since.later, rose)) (fault is))

      -- one was, and is served at a lane
      pub since_begins : (at : ℕ) (link : I × O) (mid new : Pool L B V P) → KeepsLanes old mid → mid.ended ≡ old.ended → at < length old.lanes.items
          → Gave link (seen_polled by old.listener) (seen_polled by mid.listener) → BeginsAt by at link mid new → IsSince by start total new
      since_begins at link mid new keeps same inside gave begins =
          let listener : new.listener ≡ mid.listener = ap (λ p. p.listener) begins.others in
          let faults : by.1.faults new.listener ≡ by.1.faults mid.listener = ap by.1.faults listener in
          let next = since_began by.0.serves (IsServing by.0.serves by.0.gives) start since.pairs old.accepted old.lanes.items (seen_polled by old.listener) (seen_polled by mid.listener) since.since
          at inside link begins.berth begins.serving since.many (free_began at link old mid new keeps same inside begins) begins.serves gave in
          since_from (since.pairs ++ link ∷ []) (old.accepted + 1) (set old.lanes.items at (Busy (old.accepted + 1) begins.serving)) (seen_polled by mid.listener) next.0
          new (accepted_began at link old mid new keeps same inside begins) (only_began at link old mid new keeps same inside begins) (ap (seen_polled by) listener)
          (omega (arith, since.many, length-append since.pairs (link ∷ [])))
          (reports_began at link old mid new keeps same inside begins ∙ since.told ∙ ap (map (told_of by)) (sym next.1)) (links_began at link old mid new keeps same inside begins ∙ since.whole)
          (omega (arith, since.later, gave.later, faults))
          (λ is. omega (arith, since.fault (sym (ended_began at link old mid new keeps same inside begins) ∙ is), gave.later, faults))

      module _ (at : ℕ) (inside : at < length old.lanes.items) (new : Pool L B V P) (accepted : new.accepted ≡ old.accepted) (links : new.links ≡ old.links) (ended : new.ended ≡ old.ended) where
        module _ (reports : new.reports ≡ old.reports) (listener : new.listener ≡ old.listener) where
          faults_stay : by.1.faults new.listener ≡ by.1.faults old.listener
          faults_stay = ap by.1.faults listener

          -- all lanes stay
          since_stays : new.lanes.items ≡ old.lanes.items → IsSince by start total new
          since_stays only =
              since_from since.pairs old.accepted old.lanes.items (seen_polled by old.listener) since.since
              new accepted only (ap (seen_polled by) listener) since.many (ap (λ r. r.items) reports ∙ since.told) (links ∙ since.whole)
              (omega (arith, since.later, faults_stay)) (λ is. omega (arith, since.fault (sym ended ∙ is), faults_stay))

          -- a lane had its turn, and has not served its link
          pub since_turns_on : (cx : Context) (was lane : Spot B V) → lane_at at old.lanes.items ≡ was → TurnsOn by.0 cx was lane → new.lanes.items ≡ set old.lanes.items at lane → IsSince by start total new
          since_turns_on cx (Free berth) lane is turned only = since_stays (only ∙ ap (set old.lanes.items at) (turned ∙ sym is) ∙ set-get_or old.lanes.items at Gone)
          since_turns_on cx (Busy link serving) lane is turned only =
              let serving' : V = turned.0 in
              let next = since_on by.0.serves (IsServing by.0.serves by.0.gives) start since.pairs old.accepted old.lanes.items (seen_polled by old.listener) (seen_polled by old.listener) since.since
              at inside link serving serving' is (λ s i o serves done given. serves done (turned.3 done given)) in
              since_from since.pairs old.accepted (set old.lanes.items at (Busy link serving')) (seen_polled by old.listener) next.0
              new accepted (only ∙ ap (set old.lanes.items at) turned.1) (ap (seen_polled by) listener) since.many
              (ap (λ r. r.items) reports ∙ since.told ∙ ap (map (told_of by)) (sym next.1)) (links ∙ since.whole)
              (omega (arith, since.later, faults_stay)) (λ is. omega (arith, since.fault (sym ended ∙ is), faults_stay))
          since_turns_on cx Gone lane is turned only = since_stays (only ∙ ap (set old.lanes.items at) (turned ∙ sym is) ∙ set-get_or old.lanes.items at Gone)

        -- a lane has served its link, which came back, and the report is told
        pub since_completes : (link : ℕ) (serving : V) (done : Completed B I O P) → lane_at at old.lanes.items ≡ Busy link serving → by.0.gives serving done
            → new.lanes.items ≡ set old.lanes.items at (Free done.berth) → new.reports.items ≡ old.reports.items ++ (by.0.caller done.berth, done.report) ∷ []
            → TookBack (record { link = link; source = done.source; sink = done.sink }) (seen_polled by old.listener) (seen_polled by new.listener) → IsSince by start total new
        since_completes link serving done busy given only reports took =
            let served = since_served by.0.serves (IsServing by.0.serves by.0.gives) start since.pairs old.accepted old.lanes.items (seen_polled by old.listener) (seen_polled by new.listener) since.since
            at inside link serving done.berth done.source done.sink done.report busy (λ s i o serves. serves done given) took in
            let v : Visit B I O P = served.0 in
            let said : (by.0.caller done.berth, done.report) ≡ told_of by v = λ k. (by.0.caller (sym served.1 k), sym served.2 k) in
            since_from since.pairs old.accepted (set old.lanes.items at (Free done.berth)) (seen_polled by new.listener) served.3.0
            new accepted only refl since.many
            (reports ∙ ap₂ (λ (r : List (ℕ × P)) (x : ℕ × P). r ++ x ∷ []) since.told said ∙ sym (map-append (told_of by) since.since.visits (v ∷ [])) ∙ ap (map (told_of by)) (sym served.3.1))
            (links ∙ since.whole) (omega (arith, since.later, took.later)) (λ is. omega (arith, since.fault (sym ended ∙ is), took.later))
