use Rattle.shop_keep.proofs.Opening.{opened_before}
use Rattle.shop_keep.proofs.files.journal_of.Goals as goal

pub returns-in-NotEmpty-clause-opened : goal.returns-in-NotEmpty-clause-opened
returns-in-NotEmpty-clause-opened g c =
    opened_before g.D.Disk.state (g.D.Disk.state c.args.disk) (g.D.Disk.state c.in-NotEmpty.disk) c.args.asked.now c.found.result c.in-NotEmpty.ensures.created.0 c.in-NotEmpty.ensures.later c.found.ensures.opened
