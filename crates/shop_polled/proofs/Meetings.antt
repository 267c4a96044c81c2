-- What lasts of the parts of a connection, as it reads, answers and tells, and how it goes on behind a reply.
use Rattle.std.proofs.Common.{◌≡◌, ℕ, ◌≤◌, List, [], ◌∷◌, ◌++◌, Option, Some, None, refl, sym, ap, ◌∙◌, arith, subst}
use Rattle.std.proofs.lemmas.List.Elements.{All-nil}
use Rattle.std.proofs.lemmas.List.Sums.{sum_by-append}
use Rattle.shop_edges.specs.Causes.{Rose}
use Rattle.shop_attempt.proofs.cited.Marks.{keeps_self, keeps_then}
use Rattle.shop_engine.specs.declared.report.Ended.{Ended}
use Rattle.shop_engine.specs.declared.report.Ended.TheVariants as ended
use Rattle.shop_engine.specs.declared.report.Point.{Point}
use Rattle.shop_engine.specs.Failures.{RoseBy, failures, failures_as}
use Rattle.shop_engine.specs.Steps.{plain_point}
use Rattle.shop_engine.specs.Stores.{AreFreshBy, IsFreshBy, Keeps}
use Rattle.shop_engine.specs.Workers.{WorkerState}
use Rattle.shop_polled.specs.declared.live.Live.{Live}
use Rattle.shop_polled.specs.declared.live.Stage.TheVariants.{Reading}
use Rattle.shop_polled.specs.Lives.{IfGone, met_of, parts_of}
use Rattle.shop_polled.specs.Meetings.{HasCause, Lasts, Meanings, Parts, place_of}
use Rattle.shop_polled.specs.Polls.{FollowsReply, Goes}

-- a count that rose at last rose since any time before
pub rose_since : (first before now : ℕ) → first ≤ before → Rose before now → Rose first now
rose_since first before now later rose = omega (arith, later, rose)

-- a refusal tells no failure of the gateway
pub none_failed : (points points' : List Point) → points' ≡ points ++ plain_point ∷ [] → failures points' ≡ failures points
none_failed points points' added = ap failures added ∙ sum_by-append (λ (p : Point). failures_as p.kind) points (plain_point ∷ []) ∙ omega arith

module _ {St S K C G : Type 0} (by : Meanings St S K C G) where
  pub lasts_nothing : (parts : Parts St S K C G) (points : List Point) → points ≡ [] → Lasts by parts parts points
  lasts_nothing parts points none = record {
    caller = refl;
    marks = keeps_self (by.0.marked parts.worker.store) (by.0.seat parts.worker.store);
    reads = omega arith;
    writes = omega arith;
    fresh = rw none (All-nil (IsFreshBy by.0 parts.worker.store));
    failures = rw none (omega arith);
    asks = omega arith;
  }

  -- no fault comes behind a reply
  no_fault : (first now : Parts St S K C G) (end : Ended) → FollowsReply (Some end) → HasCause by first now end
  no_fault first now ended.ReadFault follows = absurd follows
  no_fault first now ended.WriteFault follows = absurd follows
  no_fault first now _ follows = tt

  -- the reply is written whole, and the connection has ended, or goes on
  pub gone_behind : (first : Parts St S K C G) (live : Live St S K C G) (behind : Option Ended) → live.stage ≡ Reading → FollowsReply behind
      → Goes (place_of by first) (place_of by (parts_of live)) (met_of live) behind → Lasts by first (parts_of live) live.points.items → IfGone by first live behind
  gone_behind first live None reading follows goes lasts = record { met = rw reading goes; lasts = lasts }
  gone_behind first live (Some end) reading follows goes lasts = record { ends = goes; lasts = lasts; cause = no_fault first (parts_of live) end follows }

module _ {St S K C G : Type 0} (by : Meanings St S K C G) (first now : Parts St S K C G) (points : List Point) (lasts : Lasts by first now points) where
  pub lasts_read : (source : S) → by.1.faults now.source ≤ by.1.faults source
      → Lasts by first (record { worker = now.worker; source = source; sink = now.sink; clock = now.clock; gateway = now.gateway }) points
  lasts_read source later = record {
    caller = lasts.caller;
    marks = lasts.marks;
    reads = omega (arith, lasts.reads, later);
    writes = lasts.writes;
    fresh = lasts.fresh;
    failures = lasts.failures;
    asks = lasts.asks;
  }

  pub lasts_written : (sink : K) → by.2.faults now.sink ≤ by.2.faults sink
      → Lasts by first (record { worker = now.worker; source = now.source; sink = sink; clock = now.clock; gateway = now.gateway }) points
  lasts_written sink later = record {
    caller = lasts.caller;
    marks = lasts.marks;
    reads = lasts.reads;
    writes = omega (arith, lasts.writes, later);
    fresh = lasts.fresh;
    failures = lasts.failures;
    asks = lasts.asks;
  }

  pub lasts_answered : (worker : WorkerState St) (clock : C) (gateway : G) (points' : List Point) → worker.caller ≡ now.worker.caller → Keeps by.0 now.worker.store worker.store
      → (AreFreshBy by.0 now.worker.store points → AreFreshBy by.0 worker.store points')
      → ((before : ℕ) → RoseBy before (failures points) (by.4.faults now.gateway) → RoseBy before (failures points') (by.4.faults gateway))
      → by.4.faults now.gateway ≤ by.4.faults gateway
      → Lasts by first (record { worker = worker; source = now.source; sink = now.sink; clock = clock; gateway = gateway }) points'
  lasts_answered worker clock gateway points' caller marks fresh failed asks = record {
    caller = caller ∙ lasts.caller;
    marks = keeps_then _ _ _ _ _ _ lasts.marks marks;
    reads = lasts.reads;
    writes = lasts.writes;
    fresh = fresh lasts.fresh;
    failures = failed (by.4.faults first.gateway) lasts.failures;
    asks = omega (arith, lasts.asks, asks);
  }

  pub lasts_refused : (worker : WorkerState St) (points' : List Point) → worker.caller ≡ now.worker.caller → worker.store ≡ now.worker.store
      → (AreFreshBy by.0 now.worker.store points → AreFreshBy by.0 worker.store points') → failures points' ≡ failures points
      → Lasts by first (record { worker = worker; source = now.source; sink = now.sink; clock = now.clock; gateway = now.gateway }) points'
  lasts_refused worker points' caller store fresh same = record {
    caller = caller ∙ lasts.caller;
    marks = subst (λ (s : St). Keeps by.0 first.worker.store s) (sym store) lasts.marks;
    reads = lasts.reads;
    writes = lasts.writes;
    fresh = fresh lasts.fresh;
    failures = rw same lasts.failures;
    asks = lasts.asks;
  }
