-- What a connection is made of, by the meanings of the parts, and what becomes of these, whatever messages it meets.
use Rattle.std.specs.Prelude.{◌≡◌, ◌≤◌, List}
use Rattle.shop_edges.specs.Causes.{Rose}
use Rattle.shop_edges.specs.declared.clock.Clock as clock
use Rattle.shop_edges.specs.declared.gateway.Gateway as gateway
use Rattle.shop_attempt.specs.declared.store.Store as store
use Rattle.shop_engine.specs.declared.report.Ended.{Ended}
use Rattle.shop_engine.specs.declared.report.Ended.TheVariants as ended
use Rattle.shop_engine.specs.declared.report.Point.{Point}
use Rattle.shop_engine.specs.Failures.{RoseBy, failures}
use Rattle.shop_engine.specs.Served.{Streams}
use Rattle.shop_engine.specs.Stores.{AreFreshBy, Keeps}
use Rattle.shop_engine.specs.Workers.{Standing, WorkerState, standing}
use Rattle.shop_polled.specs.declared.sink.PolledSink as sink
use Rattle.shop_polled.specs.declared.source.PolledSource as source
use Rattle.shop_polled.specs.Polls.{Place}

-- of a store, a source, a sink, a clock and a gateway
abbrev pub Meanings : Type 0 → Type 0 → Type 0 → Type 0 → Type 0 → Type 1
Meanings St S K C G = store.Ghosts St × source.Ghosts S × sink.Ghosts K × clock.Ghosts C × gateway.Ghosts G

-- a worker, the streams that it serves, its clock and its gateway
pub record Parts (St S K C G : Type 0) : Type 0 where
  pub worker : WorkerState St
  pub source : S
  pub sink : K
  pub clock : C
  pub gateway : G

abbrev pub parts : {St S K C G : Type 0} → WorkerState St → S → K → C → G → Parts St S K C G
parts worker source sink clock gateway = record { worker = worker; source = source; sink = sink; clock = clock; gateway = gateway }

module _ {St S K C G : Type 0} (by : Meanings St S K C G) where
  -- where the worker stands
  abbrev pub stands : Parts St S K C G → Standing
  stands now = standing by.0.seat now.worker (by.3.readings now.clock) (by.4.answers now.gateway)

  -- what is known of the streams
  abbrev pub streams_of : Parts St S K C G → Streams
  streams_of now = record { left = by.1.left now.source; held = by.2.held now.sink }

  abbrev pub place_of : Parts St S K C G → Place
  place_of now = record { standing = stands now; streams = streams_of now }

  -- from the first parts of a connection to those now, of which the answers have these points: the caller stays, marks
  -- are kept, lists are fresh by them, and counts of faults never fall
  pub record Lasts (first now : Parts St S K C G) (points : List Point) : Type 0 where
    pub caller : now.worker.caller ≡ first.worker.caller
    pub marks : Keeps by.0 first.worker.store now.worker.store
    pub reads : by.1.faults first.source ≤ by.1.faults now.source
    pub writes : by.2.faults first.sink ≤ by.2.faults now.sink
    pub fresh : AreFreshBy by.0 now.worker.store points
    pub failures : RoseBy (by.4.faults first.gateway) (failures points) (by.4.faults now.gateway)
    pub asks : by.4.faults first.gateway ≤ by.4.faults now.gateway

  -- a fault comes only where the count of its stream rose
  abbrev pub HasCause : Parts St S K C G → Parts St S K C G → Ended → Type 0
  HasCause first now ended.ReadFault = Rose (by.1.faults first.source) (by.1.faults now.source)
  HasCause first now ended.WriteFault = Rose (by.2.faults first.sink) (by.2.faults now.sink)
  HasCause first now _ = Unit {0}
