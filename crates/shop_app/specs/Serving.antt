-- What serving connections does, by its status.
use Rattle.std.specs.Prelude.{◌≡◌, ℕ, ◌+◌, ◌<◌, ◌≤◌, ◌==◌, if◌then◌else◌, get_or, List, [], ◌∷◌, ◌++◌, flat_map, All, Contains, Option, Some, None, option_map, map, Result}
use Rattle.std.specs.List.{AllZip}
use Rattle.shop_log.specs.Histories.{Extends}
use Rattle.shop_edges.specs.Causes.{Rose}
use Rattle.shop_edges.specs.Links.{opened}
use Rattle.shop_edges.specs.declared.listener.Listener as listener
use Rattle.shop_edges.specs.Starts.{Spawning}
use Rattle.shop_edges.specs.declared.gateway.Answer.{Answer}
use Rattle.shop_places.specs.Counts.{counted}
use Rattle.shop_places.specs.Listening.{Listening, listening}
use Rattle.shop_places.specs.declared.serving.Stop.{Stop}
use Rattle.shop_places.specs.declared.serving.Stop.TheVariants.{NoLink, NotStarted, Memory}
use Rattle.shop_places.specs.Visits.{AreServed, visits_at, went}
use Rattle.shop_gateway.specs.Verdicts.{verdict}
use Rattle.shop_model.specs.population.Population.{populated}
use Rattle.shop_history.specs.declared.acts.Entry.{Entry}
use Rattle.shop_history.specs.Lawful.{IsLawful}
use Rattle.shop_history.specs.Logs.{entries_of}
use Rattle.shop_book.specs.Books.{BookValue}
use Rattle.shop_book.specs.Openings.{most_entries}
use Rattle.shop_turn.specs.Desks.{DeskValue}
use Rattle.shop_turn.specs.Shops.{Closes, Opens}
use Rattle.shop_engine.specs.Failures.{failures}
use Rattle.shop_engine.specs.Fresh.{IsFreshIn}
use Rattle.shop_engine.specs.Posts.{first_state}
use Rattle.shop_tasks.specs.InTurn.{Connection, ServedInTurn, answers_in, made_in}
use Rattle.shop_tasks.specs.Serves.{Meanings, Serves, stands}
use Rattle.shop_tasks.specs.StationValues.{StationValue, desk_of}
use Rattle.shop_tasks.specs.Tills.{answers_of}
use Rattle.shop_words.specs.declared.command.Serve.{Serve}
use Rattle.shop_app.specs.declared.status.Status.{Status}
use Rattle.shop_app.specs.declared.status.Status.TheVariants as status
use Rattle.shop_app.specs.NewShops.{caller_of, first_standing_at, new_book}
use Rattle.shop_app.specs.Shared.{Comes, Shared, Tells}
use Rattle.shop_app.specs.Summaries.{race_lines}

-- as many workers, connections and changes as words may ask for
pub record IsServable (serve : Serve) : Type 0 where
  pub one : 1 ≤ serve.workers
  pub workers : serve.workers ≤ 16
  pub connections : serve.connections ≤ 1_000_000
  pub limit : serve.shop.limit ≤ most_entries

-- what a worker's gateway has told at first: nothing where it is its own; one that is dialled never tells
abbrev pub told_at_first : ℕ → Option (List Answer)
told_at_first gateway = if gateway == 0 then Some [] else None

-- how many links are dialled for so many workers
abbrev pub dials : ℕ → ℕ → ℕ
dials gateway workers = if gateway == 0 then 0 else workers

-- links were dialled, and nothing else was done at the listener
pub record Dials {I O : Type 0} (count : ℕ) (before after : Listening I O) : Type 0 where
  pub links : after.links ≡ before.links
  pub later : before.faults ≤ after.faults
  pub accepted : after.accepted ≡ before.accepted
  pub dialled : after.dialled ≡ counted count before.dialled

-- a port was opened, and so many links were dialled
pub record Listens {I O : Type 0} (count : ℕ) (before after : Listening I O) : Type 0 where
  pub links : after.links ≡ option_map opened before.links
  pub later : before.faults ≤ after.faults
  pub accepted : after.accepted ≡ before.accepted
  pub dialled : after.dialled ≡ counted count before.dialled

-- why stations are not there
abbrev pub IsUnlinked : ℕ → ℕ → Status → Type 0
IsUnlinked before now status.NetworkFault = Rose before now
IsUnlinked before now status.Memory = Unit {0}
IsUnlinked before now _ = ⊥

-- why no more links were served
abbrev pub status_of : Stop → Status
status_of NoLink = status.NetworkFault
status_of NotStarted = status.WorkerFault
status_of Memory = status.Memory

-- lines tell what the shop of these stations came to, which is closed with this desk
pub record TellsOfBook {C I O : Type 0} (workers : ℕ) (own : DeskValue) (stations : List (StationValue C I O)) (lines : List ℕ) : Type 0 where
  pub book : BookValue
  pub closes : Closes own.origin (own ∷ map desk_of stations) book
  pub printed : lines ≡ race_lines workers book

module _ {C I O : Type 0} (by : Meanings C I O) where
  -- the station of a caller before its first connection, at this desk
  pub record IsFirstStation (serve : Serve) (clock : Option (List ℕ)) (desk : DeskValue) (station : StationValue C I O) : Type 0 where
    pub worker : station.worker ≡ first_state desk (caller_of serve.shop desk.number)
    pub clock_is : by.0.readings station.clock ≡ clock
    pub told : answers_of station.till ≡ told_at_first serve.gateway

  -- the stations of the callers at these desks
  abbrev pub AreFirstStations : Serve → Option (List ℕ) → List DeskValue → List (StationValue C I O) → Type 0
  AreFirstStations serve clock = AllZip (IsFirstStation serve clock)

  -- stations are laid out: one for each worker at a desk of its own, and one desk more that is nobody's
  pub record OpensStations (serve : Serve) (clock : Option (List ℕ)) (own : DeskValue) (stations : List (StationValue C I O)) : Type 0 where
    pub desks : List DeskValue
    pub opens : Opens (new_book serve.shop) (serve.workers + 1) (desks ++ own ∷ [])
    pub are : AreFirstStations serve clock desks stations

  -- a caller's station served these connections in turn, from its first to its last standing, in a shop with this name.
  -- The log begins with what the last one had seen, and of the caller it has what these connections made, each once and
  -- in order; each list that was kept is fresh of it. A gateway of its own never failed, and each of its verdicts is that
  -- of an empty ledger
  pub record ServedBy (serve : Serve) (clock : Option (List ℕ)) (shop : List ℕ) (log : List Entry) (number : ℕ) (first : StationValue C I O) (visits : List (Connection C I O)) (last : StationValue C I O) : Type 0 where
    pub begins : stands by first ≡ first_standing_at shop serve.shop number clock (told_at_first serve.gateway)
    pub turn : ServedInTurn by first visits last
    pub grows : Extends (stands by last).seat.seen log
    pub made : entries_of number log ≡ flat_map made_in turn.accounts
    pub fresh : All (λ v. All (IsFreshIn log) v.report.points) visits
    pub unfailing : serve.gateway ≡ 0 → All (λ v. failures v.report.points ≡ 0) visits
    pub verdicts : serve.gateway ≡ 0 → All (λ a. a.verdict ≡ verdict [] a.charge) (flat_map answers_in turn.accounts)

  -- so many links were accepted behind the call that opens the port, and each was served once, by the station of a
  -- caller of one shop, and came back. The log of the shop is lawful, each entry is one caller's, and its stamp is no later
  -- than the moment that some caller's last connection left. The lines tell what the log came to
  pub record ServedLinks (serve : Serve) (clock : Option (List ℕ)) (before after : Listening I O) (lines : List ℕ) : Type 0 where
    pub book : BookValue
    pub opened_at : book.opening.tables ≡ populated serve.shop.seed serve.shop.scale
    pub lawful : IsLawful (populated serve.shop.seed serve.shop.scale) book.log
    pub callers : All (λ e. (1 ≤ e.caller) × (e.caller ≤ serve.workers)) book.log
    pub pairs : List (I × O)
    pub visits : List (Connection C I O)
    pub firsts : List (StationValue C I O)
    pub lasts : List (StationValue C I O)
    pub served : AreServed (Serves by) firsts lasts pairs visits serve.connections
    pub links : after.links ≡ option_map (λ l. went pairs visits (opened l)) before.links
    pub shop : List ℕ
    pub each : (place : ℕ) (first last : StationValue C I O) → place < serve.workers
        → ServedBy serve clock shop book.log (place + 1) (get_or firsts place first) (visits_at place visits) (get_or lasts place last)
    pub stamps : All (λ e. (last : StationValue C I O) × Contains lasts last × (e.stamp ≤ last.worker.progress.last)) book.log
    pub accepted : after.accepted ≡ counted serve.connections before.accepted
    pub dialled : after.dialled ≡ counted (dials serve.gateway serve.workers) before.dialled
    pub printed : lines ≡ race_lines serve.workers book

  -- what the lines tell, or why there are none
  abbrev pub TellsServed : Serve → Option (List ℕ) → Listening I O → Listening I O → Spawning → Spawning → Result (List ℕ) Status → Type 0
  TellsServed serve clock before after = Tells (ServedLinks serve clock before after) serve.connections (Rose before.faults after.faults)

  -- what the status of a run says; a network fault is one of the listener
  abbrev pub IsServed : Serve → Option (List ℕ) → Listening I O → Listening I O → Shared → Shared → Status → Type 0
  IsServed serve clock before after = Comes (ServedLinks serve clock before after) serve.connections (Rose before.faults after.faults)

-- the lines by the meanings of a listener, a clock and the two sides of a link
abbrev pub ServesBy : {L C I O : Type 0} → listener.Ghosts L I O × Meanings C I O → Serve → C → Spawning × L → Spawning × L → Result (List ℕ) Status → Type 0
ServesBy (l, by) serve clock (spawner, listener) (spawner', listener') = TellsServed by serve (by.0.readings clock) (listening l listener) (listening l listener') spawner spawner'
