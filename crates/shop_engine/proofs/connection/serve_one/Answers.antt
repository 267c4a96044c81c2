use Rattle.std.proofs.Common.{List, ap}
use Rattle.shop_engine.specs.declared.report.Point.{Point}
use Rattle.shop_engine.proofs.cited.SoFar.{MessageAs-on, MessageAs-asked, MessageAs-cut}
use Rattle.shop_engine.proofs.connection.serve_one.Goals as goal

pub returns-in_default-clause-message : goal.returns-in_default-clause-message
returns-in_default-clause-message g c = (c.in_default.ensures.memory, ap (λ (l : List Point). record { points = l; held = g.K.Sink.held c.args.sink.now }) c.in_default.ensures.unanswered)

pub returns-then-message-clause-message : goal.returns-then-message-clause-message
returns-then-message-clause-message g c =
    MessageAs-asked _ _ _ _ _ _ _ c.in-Ok.ensures.answered (rw c.reply.ensures at (c.write_all.ensures.all c.if-write_all.true)) c.if-message.true

pub returns-then-write_all-clause-message : goal.returns-then-write_all-clause-message
returns-then-write_all-clause-message g c =
    MessageAs-on _ _ _ _ _ _ _ c.in-Ok.ensures.answered (rw c.reply.ensures at (c.write_all.ensures.all c.if-write_all.true)) c.if-message.false

pub returns-clause-message : goal.returns-clause-message
returns-clause-message g c =
    MessageAs-cut _ _ _ _ _ _ _ c.in-Ok.ensures.answered (rw c.reply.ensures at (c.write_all.ensures.front c.if-write_all.false))
