-- How a station serves: where memory runs out before its worker is awake, and where the link is let go at the end.
use Rattle.std.proofs.Common.{◌≡◌, ℕ, List, [], IfSome, Option, inl, refl, sym, subst, arith}
use Rattle.std.proofs.lemmas.List.Elements.{All-nil}
use Rattle.shop_edges.specs.Causes.{Rose}
use Rattle.shop_edges.proofs.cited.Known.{Consumes-nothing}
use Rattle.shop_gateway.specs.Verdicts.{AreVerdicts}
use Rattle.shop_history.specs.Lawful.{IsLawful}
use Rattle.shop_attempt.proofs.cited.Marks.{keeps_self}
use Rattle.shop_turn.specs.Desks.{marks_of}
use Rattle.shop_engine.specs.declared.report.Ended.TheVariants as ended
use Rattle.shop_engine.specs.declared.report.Point.{Point}
use Rattle.shop_engine.specs.declared.report.Report.{Report}
use Rattle.shop_engine.specs.Failures.{failures}
use Rattle.shop_engine.specs.Lists.{IsFreshPoint}
use Rattle.shop_engine.specs.Served.{Served, Streams}
use Rattle.shop_engine.specs.Undisturbed.{IsWhole}
use Rattle.shop_engine.specs.Workers.{Standing}
use Rattle.shop_engine.proofs.cited.Served.{Served-memory}
use Rattle.shop_engine.proofs.cited.SoFar.{nothing_met}
use Rattle.shop_tasks.specs.Serves.{Meanings, Serves, stands, streams}
use Rattle.shop_tasks.specs.StationValues.{StationValue}
use Rattle.shop_tasks.specs.Tills.{answers_of}

nothing_served : (stands : Standing) (streams : Streams) → Served stands stands streams streams ended.Memory []
nothing_served stands streams =
    Served-memory stands stands streams streams [] [] (nothing_met stands streams [] [] refl refl) stands streams.left [] (omega arith) (Consumes-nothing streams.left) (inl refl)

none_failed : failures [] ≡ 0
none_failed = refl

pub unserved : {C I O : Type 0} (by : Meanings C I O) (station : StationValue C I O) (source : I) (sink : O) → IsLawful (stands by station).seat.opening (stands by station).seat.seen
    → IfSome (answers_of station.till) (AreVerdicts []) → Serves by station source sink station source sink (record { end = ended.Memory; points = [] })
unserved by station source sink lawful verdicts = record {
  served = nothing_served (stands by station) (streams by source sink);
  complete = λ undisturbed sound. All-nil (λ (p : Point). IsWhole p.kind);
  caller = refl;
  lawful = lawful;
  marks = keeps_self (marks_of station.worker.store) (stands by station).seat;
  read_fault = λ is. absurd cc;
  write_fault = λ is. absurd cc;
  reads = omega arith;
  writes = omega arith;
  fresh = All-nil (IsFreshPoint (marks_of station.worker.store) (stands by station).seat.seen);
  failures = omega (arith, none_failed);
  asks = omega arith;
  verdicts = verdicts;
}

-- the link was let go, which changes nothing that is told of it
pub let_go : {C I O : Type 0} (by : Meanings C I O) (old new : StationValue C I O) (source source' source'' : I) (sink sink' sink'' : O) (report : Report) → Serves by old source sink new source' sink' report
    → by.1.left source'' ≡ by.1.left source' → by.1.faults source'' ≡ by.1.faults source' → by.2.held sink'' ≡ by.2.held sink' → by.2.faults sink'' ≡ by.2.faults sink'
    → Serves by old source sink new source'' sink'' report
let_go by old new source source' source'' sink sink' sink'' report serves left reads held writes = record {
  served =
      subst (λ (h : Option (List ℕ)). Served (stands by old) (stands by new) (streams by source sink) (record { left = by.1.left source''; held = h }) report.end report.points) (sym held)
      (subst (λ (l : Option (List ℕ)). Served (stands by old) (stands by new) (streams by source sink) (record { left = l; held = by.2.held sink' }) report.end report.points) (sym left) serves.served);
  complete = serves.complete;
  caller = serves.caller;
  lawful = serves.lawful;
  marks = serves.marks;
  read_fault = λ is. subst (Rose (by.1.faults source)) (sym reads) (serves.read_fault is);
  write_fault = λ is. subst (Rose (by.2.faults sink)) (sym writes) (serves.write_fault is);
  reads = omega (arith, serves.reads, reads);
  writes = omega (arith, serves.writes, writes);
  fresh = serves.fresh;
  failures = serves.failures;
  asks = serves.asks;
  verdicts = serves.verdicts;
}
