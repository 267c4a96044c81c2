use Rattle.std.proofs.Common.{◌≤◌}
use Rattle.shop_gateway.specs.Readings.{weight}
use Rattle.shop_gateway.specs.Services.{streams}
use Rattle.shop_gateway.proofs.ServiceLemmas.{Serving}
use Rattle.shop_gateway.proofs.served.serve_gateway.Given as goal

abbrev pub invariant-loop-len : goal.invariant-loop-len
invariant-loop-len g l = record {
  serving : Serving l.fn.emulator l.emulator (streams (g.S.Source.left l.fn.source) (g.K.Sink.held l.fn.sink)) (streams (g.S.Source.left l.source) (g.K.Sink.held l.sink)) l.reader;
  reads : g.S.Source.faults l.fn.source ≤ g.S.Source.faults l.source;
  writes : g.K.Sink.faults l.fn.sink ≤ g.K.Sink.faults l.sink;
}

abbrev pub decreases-loop-len : goal.decreases-loop-len
decreases-loop-len g l = weight (g.S.Source.reads l.source) l.reader
