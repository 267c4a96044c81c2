use Rattle.std.proofs.Common.{sym, ap, subst}
use Rattle.std.specs.Option.{ForSome}
use Rattle.std.specs.Prelude.{Err}
use Rattle.shop_journal.specs.declared.headers.Format.TheVariants.{First}
use Rattle.shop_journal.specs.Journals.{IsNone, Keeps}
use Rattle.shop_journal.proofs.Opens.{old_kept, old_none}
use Rattle.shop_journal.proofs.migrating.old_in.Goals as goal

pub returns-in-Ok-clause-read : goal.returns-in-Ok-clause-read
returns-in-Ok-clause-read g c =
    let state = g.D.Disk.state in
    subst (λ d. ForSome (state d).told (Keeps First c.in-Ok.log.head c.in-Ok.log.entries)) (sym c.into_disk.ensures)
    (old_kept (state c.args.records) c.args.contents.now c.in-Ok.log.head c.in-Ok.log.entries c.requires c.in-Ok.ensures.log)

pub returns-in-Err-Broken-clause-read : goal.returns-in-Err-Broken-clause-read
returns-in-Err-Broken-clause-read g c =
    let state = g.D.Disk.state in
    subst (λ d. ForSome (state d).told (IsNone First c.in-Err-Broken.at)) (sym c.into_disk-in-Err-Broken.ensures)
    (old_none (state c.args.records) c.args.contents.now c.in-Err-Broken.at c.requires
    (λ header payloads keeps. c.in-Err-Broken.ensures.broken header payloads c.in-Err-Broken.at keeps (ap (λ x. Err x) c.in-Err-Broken.field-0-is)))
