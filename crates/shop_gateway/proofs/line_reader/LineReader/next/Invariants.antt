use Rattle.std.proofs.Common.{◌≤◌}
use Rattle.shop_gateway.specs.Lines.{Gathers}
use Rattle.shop_gateway.specs.Readings.{weight}
use Rattle.shop_gateway.proofs.line_reader.LineReader.next.Given as goal

abbrev pub invariant-loop-len : goal.invariant-loop-len
invariant-loop-len g l = record {
  gathers : Gathers (g.S.Source.left l.fn.source) (g.S.Source.left l.source) l.fn.self l.self;
  weight : weight (g.S.Source.reads l.source) l.self ≤ weight (g.S.Source.reads l.fn.source) l.fn.self;
  later : g.S.Source.faults l.fn.source ≤ g.S.Source.faults l.source;
}

abbrev pub decreases-loop-len : goal.decreases-loop-len
decreases-loop-len g l = g.S.Source.reads l.source
