use Rattle.std.proofs.Common.{arith}
use Rattle.shop_engine.proofs.ConnectionLemmas.{makes_answer, nothing_begun}
use Rattle.shop_engine.proofs.KeptLemmas.{points_more}
use Rattle.shop_engine.proofs.connection.answer_next.Goals as goal

pub returns-in_default-clause-memory : goal.returns-in_default-clause-memory
returns-in_default-clause-memory g c = nothing_begun _ _

pub returns-clause-answered : goal.returns-clause-answered
returns-clause-answered g c =
    makes_answer c.len.result _ _ c.args.message.now c.in-Some.point _ _ _ _ (omega (arith, c.len.ensures)) c.in-Some.ensures.answers c.reserve.ensures.items c.add_point.ensures

pub returns-clause-fresh : goal.returns-clause-fresh
returns-clause-fresh g c all = points_more _ _ _ _ _ c.reserve.new.self.items c.add_point.new.points.items c.in-Some.point c.in-Some.ensures.marks c.in-Some.ensures.fresh c.reserve.ensures.items c.add_point.ensures all
