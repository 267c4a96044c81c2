use Rattle.std.proofs.Common.{sym, subst}
use Rattle.shop_journal.specs.declared.headers.Format.TheVariants.{Second}
use Rattle.shop_journal.specs.Headers.{header_of}
use Rattle.shop_journal.specs.Journals.{payloads_of}
use Rattle.shop_journal.specs.Runs.{Leaves, records_of}
use Rattle.shop_journal.proofs.Runs.{told_file}
use Rattle.shop_journal.proofs.opening.find.Goals as goal

pub returns-in-NotAJournal-clause-exact : goal.returns-in-NotAJournal-clause-exact
returns-in-NotAJournal-clause-exact g c = λ head entries file told keeps.
    absurd (c.in-NotAJournal.ensures.exact (header_of Second head) (payloads_of Second entries) file told keeps.keeps)

pub returns-in-Open-clause-run : goal.returns-in-Open-clause-run
returns-in-Open-clause-run g c = λ run left tells.
    let state = g.D.Disk.state in
    subst (λ d. Leaves (state d) run) (sym c.found_in.ensures.disk) (record { entries = left.entries; records_left = c.in-Open.ensures.run (records_of run) left.records_left })

pub returns-in-NotAJournal-clause-run : goal.returns-in-NotAJournal-clause-run
returns-in-NotAJournal-clause-run g c = λ run left tells.
    let file = told_file (g.D.Disk.state c.args.disk).told tells in
    let kept = left.records_left.read file.0 file.1 in
    let those = records_of run in
    absurd (c.in-NotAJournal.ensures.exact those.header _ file.0 file.1 kept.keeps)

pub returns-in-Failed-clause-run : goal.returns-in-Failed-clause-run
returns-in-Failed-clause-run g c = λ run left tells. record { entries = left.entries; records_left = c.in-Failed.ensures.run (records_of run) left.records_left }

pub returns-in-Memory-clause-run : goal.returns-in-Memory-clause-run
returns-in-Memory-clause-run g c = λ run left tells. record { entries = left.entries; records_left = c.in-Memory.ensures.run (records_of run) left.records_left }
