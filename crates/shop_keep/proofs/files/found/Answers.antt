use Rattle.shop_keep.specs.Files.{head_of}
use Rattle.shop_keep.proofs.Opening.{none_in, open_as}
use Rattle.shop_keep.proofs.files.found.Goals as goal

pub returns-then-is_of-clause-opened : goal.returns-then-is_of-clause-opened
returns-then-is_of-clause-opened g c =
    open_as (g.D.Disk.state c.args.disk).told c.requires (g.D.Disk.state c.in-Open.journal) (head_of c.args.asked.now) c.in-Open.head c.in-Open.entries.items c.in-Open.ensures.looks.told
    (c.is_of.ensures.0 c.if-is_of.true) c.in-Open.ensures.found c.in-Open.ensures.exact

pub returns-in-OldFormat-clause-opened : goal.returns-in-OldFormat-clause-opened
returns-in-OldFormat-clause-opened g c =
    (c.in-OldFormat.ensures.looks.told, none_in (g.D.Disk.state c.args.disk).told c.requires (head_of c.args.asked.now) (λ others file told keeps. c.in-OldFormat.ensures.exact (head_of c.args.asked.now) others file told keeps))

pub returns-in-NotAJournal-clause-opened : goal.returns-in-NotAJournal-clause-opened
returns-in-NotAJournal-clause-opened g c =
    (c.in-NotAJournal.ensures.looks.told, none_in (g.D.Disk.state c.args.disk).told c.requires (head_of c.args.asked.now) (λ others file told keeps. c.in-NotAJournal.ensures.exact (head_of c.args.asked.now) others file told keeps))
