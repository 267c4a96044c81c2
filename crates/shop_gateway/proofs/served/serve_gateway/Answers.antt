use Rattle.std.proofs.Common.{◌+◌, refl, subst, drop, arith}
use Rattle.std.specs.Io.KnownBytes.{Appends}
use Rattle.shop_edges.specs.Streams.{AppendsFront}
use Rattle.shop_gateway.proofs.LineLemmas.{line-is}
use Rattle.shop_gateway.proofs.ServiceLemmas.{serving-read, serving-told, serves-cut, serves-failed, serves-long, serves-long-cut, serves-cut-reply, serves-memory}
use Rattle.shop_gateway.proofs.served.serve_gateway.Goals as goal

pub returns-in-Cut-clause-serves : goal.returns-in-Cut-clause-serves
returns-in-Cut-clause-serves g c =
    serves-cut _ _ _ _ _ _ (serving-read _ _ _ _ _ _ c.loop-len.invariant.serving _ _ c.next.ensures.gathers) c.in-Cut.ensures.stop.0 c.in-Cut.ensures.stop.1

pub returns-in-Failed-clause-serves : goal.returns-in-Failed-clause-serves
returns-in-Failed-clause-serves g c =
    serves-failed _ _ _ _ _ _ (serving-read _ _ _ _ _ _ c.loop-len.invariant.serving _ _ c.next.ensures.gathers) c.in-Failed.ensures.stop

pub returns-then-write_all-clause-serves : goal.returns-then-write_all-clause-serves
returns-then-write_all-clause-serves g c =
    serves-long _ _ _ _ _ _ (serving-read _ _ _ _ _ _ c.loop-len.invariant.serving _ _ c.next.ensures.gathers) _ c.in-TooLong.ensures.stop
    (subst (Appends (g.K.Sink.held c.loop-len.sink) (g.K.Sink.held c.write_all.new.sink)) c.bad_line.ensures (c.write_all.ensures.all c.if-write_all.true))

pub returns-in-TooLong-clause-serves : goal.returns-in-TooLong-clause-serves
returns-in-TooLong-clause-serves g c =
    serves-long-cut _ _ _ _ _ _ (serving-read _ _ _ _ _ _ c.loop-len.invariant.serving _ _ c.next.ensures.gathers) _ c.in-TooLong.ensures.stop
    (subst (AppendsFront (g.K.Sink.held c.loop-len.sink) (g.K.Sink.held c.write_all.new.sink)) c.bad_line.ensures (c.write_all.ensures.front c.if-write_all.false))

pub loop-len-preserved : goal.loop-len-preserved
loop-len-preserved g c = record {
  serving =
      serving-told _ _ _ _ _ _ (serving-read _ _ _ _ _ _ c.loop-len.invariant.serving _ _ c.next.ensures.gathers) _ _ c.line.result.now _
      (line-is _ c.line.result.now c.pass.new.self c.in-Whole.len c.in-Whole.ensures.stop c.line.ensures c.pass.ensures)
      c.in-Whole-answer.ensures.told.0 c.in-Whole-answer.ensures.told.1;
  reads = omega (arith, c.loop-len.invariant.reads, c.next.ensures.later);
  writes = omega (arith, c.loop-len.invariant.writes, c.answer.ensures.later);
}

pub returns-in-Broken-clause-serves : goal.returns-in-Broken-clause-serves
returns-in-Broken-clause-serves g c =
    serves-cut-reply _ _ _ _ _ _ (serving-read _ _ _ _ _ _ c.loop-len.invariant.serving _ _ c.next.ensures.gathers) _ _ c.line.result.now _
    (line-is _ c.line.result.now (drop (c.in-Whole.len + 1) c.next.new.self) c.in-Whole.len c.in-Whole.ensures.stop c.line.ensures refl)
    c.in-Broken.ensures.told.0 c.in-Broken.ensures.told.1

pub returns-in-Memory-clause-serves : goal.returns-in-Memory-clause-serves
returns-in-Memory-clause-serves g c =
    serves-memory _ _ _ _ _ _ (serving-read _ _ _ _ _ _ c.loop-len.invariant.serving _ _ c.next.ensures.gathers) _ _ c.line.result.now _
    (line-is _ c.line.result.now (drop (c.in-Whole.len + 1) c.next.new.self) c.in-Whole.len c.in-Whole.ensures.stop c.line.ensures refl)
    c.in-Memory.ensures.told.0 c.in-Memory.ensures.told.1 c.in-Memory.ensures.told.2
