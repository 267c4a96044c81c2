use Rattle.shop_journal.specs.declared.headers.Head.{Head}
use Rattle.shop_journal.proofs.Opens.{made}
use Rattle.shop_journal.proofs.journal.Journal.create.Goals as goal

pub returns-in-Done-clause-created : goal.returns-in-Done-clause-created
returns-in-Done-clause-created g c =
    let state = g.D.Disk.state in
    let head : Head = record { seed = c.args.seed; scale = c.args.scale.now } in
    made (state c.args.disk).told head c.in-Ok.header (state c.in-Done.records) c.in-Ok.ensures.head c.in-Ok.ensures.header c.in-Done.ensures.created
