use Rattle.std.proofs.Common.{◌∙◌, ap}
use Rattle.shop_keep.specs.Moves.{Move}
use Rattle.shop_keep.proofs.Moved.{moved_from}
use Rattle.shop_keep.proofs.moving.move_journal.Goals as goal

pub returns-clause-moved : goal.returns-clause-moved
returns-clause-moved g c =
    let move : Move = record {
      old = g.D.Disk.named c.args.old c.args.asked.now.from;
      new = g.D.Disk.named c.args.new c.args.asked.now.to;
      old_was = g.D.Disk.state c.args.old;
      old_now = g.D.Disk.state c.migrate-migrated.result.1;
      new_was = g.D.Disk.state c.args.new;
      new_now = g.D.Disk.state c.migrate-migrated.result.2;
      held = g.K.Sink.held c.args.sink.now;
      held_now = g.K.Sink.held c.outcome.new.sink;
      writes = g.K.Sink.faults c.args.sink.now;
      writes_now = g.K.Sink.faults c.outcome.new.sink;
    } in
    moved_from move (g.D.Disk.state c.open.new.self) (g.D.Disk.state c.open-2.new.self) c.migrate-migrated.result.0 c.outcome.result
    (c.in-Open.ensures.told ∙ ap (g.D.Disk.named c.args.old) c.bytes.ensures) (c.in-Open-open.ensures.told ∙ ap (g.D.Disk.named c.args.new) c.bytes-2.ensures) c.in-Open.ensures.cause.later c.in-Open-open.ensures.cause.later
    c.migrate-migrated.ensures.old c.migrate-migrated.ensures.migrates c.outcome.ensures.ends c.migrate-migrated.ensures.failed
