use Rattle.std.proofs.Common.{List, ℕ, Option, subst}
use Rattle.std.specs.Option.{ForSome}
use Rattle.shop_journal.specs.declared.headers.Format.TheVariants.{First}
use Rattle.shop_journal.specs.Journals.{Keeps}
use Rattle.shop_journal.proofs.Moving.{migrated_as}
use Rattle.shop_journal.proofs.migrating.migrate.Goals as goal

pub returns-in-Log-clause-migrates : goal.returns-in-Log-clause-migrates
returns-in-Log-clause-migrates g c =
    let old = g.D.Disk.state in
    let new = g.E.Disk.state in
    migrated_as c.write_to-migrated.result (old c.args.old).told (new c.args.new).told (new c.write_to-migrated.new.new) c.in-Log.log.head c.in-Log.log.entries
    (subst (λ (t : Option (List ℕ)). ForSome t (Keeps First c.in-Log.log.head c.in-Log.log.entries)) c.in-Log.ensures.looks.told c.in-Log.ensures.read) c.write_to-migrated.ensures.writes
