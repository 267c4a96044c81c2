-- What came of `poll`, by its lanes and the close of its shop.
use Rattle.std.proofs.Common.{◌≡◌, ◌⊎◌, inl, inr, ℕ, ◌<◌, ◌+◌, List, [], ◌∷◌, ◌++◌, length, Option, Some, None, Result, Ok, Err, refl, sym, ap, ◌∙◌, subst, arith}
use Rattle.std.specs.Prelude.{IfSome, IsSomeAnd}
use Rattle.std.specs.List.{All, AllZip}
use Rattle.shop_edges.specs.Causes.{Rose}
use Rattle.shop_edges.specs.declared.sink.Sink as sink
use Rattle.shop_engine.specs.Workers.{WorkerState}
use Rattle.shop_lanes.specs.declared.lanes.Landed.{Landed}
use Rattle.shop_lanes.specs.declared.lanes.Lanes.{Lanes}
use Rattle.shop_lanes.specs.declared.listener.PolledListener as listener
use Rattle.shop_lanes.specs.declared.pool.LanesEnd.{LanesEnd}
use Rattle.shop_lanes.specs.declared.pool.LanesEnd.TheVariants as ended
use Rattle.shop_lanes.specs.declared.pool.Pool.{Pool}
use Rattle.shop_lanes.specs.Landings.{Gives, IsBegun, IsLanding, Lands}
use Rattle.shop_lanes.specs.Pools.{IsSince, Meanings}
use Rattle.shop_places.specs.Outcomes.{AreDone}
use Rattle.shop_places.specs.Since.{Start}
use Rattle.shop_tasks.specs.StationValues.{StationValue, desk_of}
use Rattle.shop_tasks.specs.Serves as serves
use Rattle.shop_tasks.specs.declared.till.Till.{Till}
use Rattle.shop_tasks.specs.Tills.{answers_of}
use Rattle.shop_turn.specs.Desks.{DeskValue, IsOneShop}
use Rattle.shop_words.specs.declared.polled.Poll.{Poll}
use Rattle.shop_words.specs.Polled.{IsPoll, IsPollable}
use Rattle.shop_app.specs.declared.status.Status.{Status}
use Rattle.shop_app.specs.declared.status.Status.TheVariants as status
use Rattle.shop_app.specs.Serving.{AreFirstStations, IsFirstStation, Listens, OpensStations, ServedLinks, TellsOfBook}
use Rattle.shop_app.specs.Shared.{IsDone, IsUntold, Prints, Tells, shared}
use Rattle.shop_app.proofs.cited.Ends.{bad_status, comes, comes_done}
use Rattle.shop_app.proofs.cited.NewShops.{rest_size}
use Rattle.shop_app.proofs.cited.Places.{zip_size, zip_then}
use Rattle.shop_app.proofs.cited.ServeLemmas.{one_shop, served_links}
use Rattle.shop_poll.specs.Lanes.{AreStations, IsStation}
use Rattle.shop_poll.specs.Runs.{ComesBack, Completes, FailedBack, RunMeanings, RunsPolled, ServedBack, TellsBack, TellsOfEnd, TellsRun, runs, seen, serve_of}
use Rattle.shop_poll.specs.Servings.{serves_by}
use Rattle.shop_poll.specs.Workers.{IsFirstWorker, OpensWorkers}

-- lanes leave what they give, since they began
pub landing : {L B V I O P : Type 0} (by : Meanings L B V I O P) (start : Start B I O) (total : ℕ) (lanes : Lanes L B V P) (landed : Landed L B P) → IsBegun by start total lanes → Gives by lanes landed → IsLanding by start total landed
landing {L} {B} {V} {I} {O} {P} by start total lanes landed begun gives = at lanes.pool begun gives
  where
    at : (pool : Option (Pool L B V P)) → IsSomeAnd pool (IsSince by start total) → IfSome pool (λ p. Lands by p landed) → IsLanding by start total landed
    at None begun gives = absurd begun
    at (Some pool) begun gives = gives.0 start total begun

module _ {C I O : Type 0} (by : serves.Meanings C I O) (poll : Poll) (clock : Option (List ℕ)) where
  abbrev Station : Type 0
  Station = StationValue C I O

  first_one : (desk : DeskValue) (station : Station) → ((worker : WorkerState DeskValue) × IsFirstWorker poll.shop desk worker × IsStation by.0.readings clock worker station)
      → IsFirstStation by (serve_of poll) clock desk station
  first_one desk station (worker, first, at) = record {
    worker = at.worker_is ∙ ap (λ (w : WorkerState DeskValue). record w { reply = [] }) first;
    clock_is = at.clock_is;
    told = ap (λ (t : Till I O). answers_of t) at.till_is;
  }

  each_first : (desks : List DeskValue) (stations : List Station) → AllZip (λ desk station. (worker : WorkerState DeskValue) × IsFirstWorker poll.shop desk worker × IsStation by.0.readings clock worker station) desks stations
      → AreFirstStations by (serve_of poll) clock desks stations
  each_first [] [] all = tt
  each_first [] (s ∷ ss) all = absurd all
  each_first (d ∷ ds) [] all = absurd all
  each_first (d ∷ ds) (s ∷ ss) all = (first_one d s all.0, each_first ds ss all.1)

  -- the stations of a new shop's workers
  pub opens_stations : (own : DeskValue) (workers : List (WorkerState DeskValue)) (stations : List Station) → OpensWorkers poll.shop poll.lanes own workers → AreStations by.0.readings clock workers stations
      → OpensStations by (serve_of poll) clock own stations
  opens_stations own workers stations opens are = record {
    desks = opens.desks;
    opens = opens.opens;
    are = each_first opens.desks stations (zip_then (IsFirstWorker poll.shop) (IsStation by.0.readings clock) opens.desks workers stations opens.are are);
  }

-- there is a worker
pub some_workers : (poll : Poll) (own : DeskValue) (workers : List (WorkerState DeskValue)) → IsPollable poll → OpensWorkers poll.shop poll.lanes own workers → 0 < length workers
some_workers poll own workers fits opens =
    omega (
      arith,
      fits.one,
      rest_size poll.shop (poll.lanes + 1) (opens.desks ++ own ∷ []) opens.desks own opens.opens refl,
      zip_size (IsFirstWorker poll.shop) opens.desks workers opens.are,
    )

module _ {L C I O : Type 0} (l : listener.Ghosts L I O) (by : serves.Meanings C I O) (poll : Poll) (clock : Option (List ℕ)) (fits : IsPollable poll)
    (own : DeskValue) (workers : List (WorkerState DeskValue)) (firsts lasts : List (StationValue C I O)) (opens : OpensWorkers poll.shop poll.lanes own workers) (are : AreStations by.0.readings clock workers firsts)
    (before opened after : L) (listens : Listens 0 (seen l before) (seen l opened)) (links : ℕ) (done : AreDone (serves.Serves by) links 0 firsts lasts (seen l opened) (seen l after)) where
  -- the desks of its stations are of one shop, however many links they served
  pub all_one_shop : All (λ station. IsOneShop own (desk_of station)) lasts
  all_one_shop =
      let served : Poll = record poll { connections = links } in
      one_shop by (serve_of served) clock own firsts (opens_stations by served clock own workers firsts opens are) lasts (seen l before) (seen l opened) (seen l after) done

  served_all : links ≡ poll.connections → (lines : List ℕ) → TellsOfBook poll.lanes own lasts lines → ServedLinks by (serve_of poll) clock (seen l before) (seen l after) lines
  served_all all lines tells =
      served_links by (serve_of poll) clock own firsts (opens_stations by poll clock own workers firsts opens are) lasts (seen l before) (seen l opened) (seen l after)
      (subst (λ (n : ℕ). AreDone (serves.Serves by) n 0 firsts lasts (seen l opened) (seen l after)) all done)
      (record { one = fits.one; workers = fits.lanes; connections = fits.connections; limit = fits.limit }) listens lines tells

  -- what is told of lanes that have ended
  pub told_landed : (ends : LanesEnd) (lines : Result (List ℕ) Status) (old new : ℕ) → TellsOfEnd poll.lanes own lasts ends lines → (ends ≡ ended.All → links ≡ poll.connections)
      → (ends ≡ ended.ListenerFault → Rose (l.faults opened) (l.faults after)) → TellsBack l by clock before (Some after) poll old new lines
  told_landed ended.All (Ok lines) old new tells all fault = (served_all (all refl) lines tells, refl)
  told_landed ended.All (Err why) old new tells all fault = subst (IsUntold (FailedBack l by clock before (Some after) poll) (runs old) (runs new)) (sym tells) tt
  told_landed ended.ListenerFault lines old new tells all fault =
      subst (Tells (ServedBack l by clock before (Some after) poll) 0 (FailedBack l by clock before (Some after) poll) (runs old) (runs new)) (sym tells) (omega (arith, listens.later, fault refl))
  told_landed ended.Memory lines old new tells all fault =
      subst (Tells (ServedBack l by clock before (Some after) poll) 0 (FailedBack l by clock before (Some after) poll) (runs old) (runs new)) (sym tells) tt

module _ {K U L I O C : Type 0} (k : sink.Ghosts K) (by : RunMeanings U L I O C) (words : List (List ℕ)) (clock : C) (sink sink' : K) (runner runner' : U) (before : L) (after : Option L) (outcome : Status) where
  -- what is printed is what lines tell, and so the status
  pub run_told : (lines : Result (List ℕ) Status) → Prints lines (k.held sink) (k.held sink') (k.faults sink) (k.faults sink') outcome → ((why : Status) → lines ≡ Err why → sink' ≡ sink)
      → TellsRun by words clock (runner, before) (runner', after) lines → RunsPolled (k, by) words clock (sink, runner, before) (sink', runner', after) outcome
  run_told lines printed untouched told good = from (told (λ bad. good (bad_status lines (k.held sink) (k.held sink') (k.faults sink) (k.faults sink') outcome printed bad)))
    where
      from : ((lines ≡ Err status.Memory) × (runner' ≡ runner) × (after ≡ Some before))
          ⊎ ((poll : Poll) × IsPoll words poll × TellsBack by.1 (serves_by by.2) (by.2.2.readings clock) before after poll (by.0 runner) (by.0 runner') lines)
          → ((outcome ≡ status.Memory) × (sink' ≡ sink) × (runner' ≡ runner) × (after ≡ Some before))
          ⊎ ((poll : Poll) × IsPoll words poll
          × ComesBack by.1 (serves_by by.2) (by.2.2.readings clock) before after poll (shared k sink (runs (by.0 runner))) (shared k sink' (runs (by.0 runner'))) outcome)
      from (inl (none, same, back)) =
          let unprinted : Prints (Err status.Memory) (k.held sink) (k.held sink') (k.faults sink) (k.faults sink') outcome =
          subst (λ (r : Result (List ℕ) Status). Prints r (k.held sink) (k.held sink') (k.faults sink) (k.faults sink') outcome) none printed in
          inl (unprinted.0, untouched status.Memory none, same, back)
      from (inr (poll, is, tells)) =
          inr (
            poll,
            is,
            comes (ServedBack by.1 (serves_by by.2) (by.2.2.readings clock) before after poll) 0 (FailedBack by.1 (serves_by by.2) (by.2.2.readings clock) before after poll) (runs (by.0 runner)) (runs (by.0 runner'))
                (k.held sink) (k.held sink') (k.faults sink) (k.faults sink') lines outcome tells printed,
          )

  -- where nothing failed, all was served, or memory ran out
  pub completes : RunsPolled (k, by) words clock (sink, runner, before) (sink', runner', after) outcome → Completes (k.faults, by.0, by.1.faults) (sink, runner, before) (sink', runner', after) outcome
  completes ran good no_write no_run no_link = from (ran good)
    where
      unreached : (poll : Poll) (back : Option L) → IfSome back (λ b. ¬ (Rose (by.1.faults before) (by.1.faults b))) → FailedBack by.1 (serves_by by.2) (by.2.2.readings clock) before back poll → ⊥
      unreached poll None no_link failed = failed
      unreached poll (Some back) no_link failed = no_link failed

      from : ((outcome ≡ status.Memory) × (sink' ≡ sink) × (runner' ≡ runner) × (after ≡ Some before))
          ⊎ ((poll : Poll) × IsPoll words poll
          × ComesBack by.1 (serves_by by.2) (by.2.2.readings clock) before after poll (shared k sink (runs (by.0 runner))) (shared k sink' (runs (by.0 runner'))) outcome) → IsDone outcome
      from (inl none) = inr none.0
      from (inr (poll, is, came)) =
          comes_done (ServedBack by.1 (serves_by by.2) (by.2.2.readings clock) before after poll) 0 (FailedBack by.1 (serves_by by.2) (by.2.2.readings clock) before after poll) (runs (by.0 runner)) (runs (by.0 runner'))
          (k.held sink) (k.held sink') (k.faults sink) (k.faults sink') outcome good came no_run (unreached poll after no_link) no_write

-- the status that tells why there are no lines
pub status_is : (lines : Result (List ℕ) Status) (held held' : Option (List ℕ)) (writes writes' : ℕ) (outcome why : Status) → Prints lines held held' writes writes' outcome → lines ≡ Err why → outcome ≡ why
status_is lines held held' writes writes' outcome why printed is = (subst (λ (r : Result (List ℕ) Status). Prints r held held' writes writes' outcome) is printed).0
