use Rattle.shop_engine.proofs.cited.SoFar.{RefusalAs-told, RefusalAs-cut}
use Rattle.shop_engine.proofs.connection.refuse.Goals as goal

pub returns-then-write_all-clause-told : goal.returns-then-write_all-clause-told
returns-then-write_all-clause-told g c =
    rw c.status.ensures (RefusalAs-told _ _ _ _ _ c.in-Ok.ensures.refused (rw c.reply.ensures at (c.write_all.ensures.all c.if-write_all.true)))

pub returns-clause-told : goal.returns-clause-told
returns-clause-told g c = RefusalAs-cut _ _ _ _ _ c.in-Ok.ensures.refused (rw c.reply.ensures at (c.write_all.ensures.front c.if-write_all.false))
