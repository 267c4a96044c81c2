use Rattle.shop_journal.proofs.Runs as runs
use Rattle.shop_journal.proofs.journal.Journal.open.Goals as goal

pub returns-clause-survives : goal.returns-clause-survives
returns-clause-survives g c = λ before run at image left told.
    runs.survives c.find.result (g.D.Disk.state c.args.disk).told c.find.ensures.exact (g.D.Disk.state before) run at image left told

pub returns-clause-again : goal.returns-clause-again
returns-clause-again g c = λ run leaves tells. runs.again c.find.result (g.D.Disk.state c.args.disk) c.find.ensures.exact run leaves tells
