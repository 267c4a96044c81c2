use Rattle.std.proofs.Common.{List, sym, ◌∙◌, ap, subst}
use Rattle.std.specs.Option.{ForSome}
use Rattle.std.specs.Prelude.{Err}
use Rattle.std.proofs.lemmas.Bool.{both_ways}
use Rattle.shop_history.specs.declared.acts.Entry.{Entry}
use Rattle.shop_journal.specs.declared.headers.Format.TheVariants.{First, Second}
use Rattle.shop_journal.specs.Journals.{BeginsAs, payloads_of}
use Rattle.shop_journal.specs.Opening.{IsNoJournal, IsOpen}
use Rattle.shop_journal.proofs.Opens.{no_journal, not_both, not_broken, old_format, opens, same_log}
use Rattle.shop_journal.proofs.opening.found_in.Goals as goal

pub returns-then-is_old_journal-clause-found : goal.returns-then-is_old_journal-clause-found
returns-then-is_old_journal-clause-found g c =
    let state = g.D.Disk.state in
    subst (λ d. ForSome (state d).told (BeginsAs First)) (sym c.into_disk.ensures)
    (old_format (state c.args.records) c.args.contents.now c.requires.open (c.is_old_journal.ensures.0 c.if-is_old_journal.true))

pub returns-then-is_old_journal-clause-kept : goal.returns-then-is_old_journal-clause-kept
returns-then-is_old_journal-clause-kept g c = λ head entries keeps.
    not_both head (payloads_of Second entries) c.args.contents.now keeps.keeps (c.is_old_journal.ensures.0 c.if-is_old_journal.true)

pub returns-in-Ok-clause-found : goal.returns-in-Ok-clause-found
returns-in-Ok-clause-found g c =
    let state = g.D.Disk.state in
    subst (λ (es : List Entry). IsOpen (state c.args.records) c.in-Ok.log.head es) (sym c.into_vec.ensures)
    (opens (state c.args.records) c.args.contents.now c.in-Ok.log.head c.in-Ok.log.entries c.requires.open c.in-Ok.ensures.log)

pub returns-in-Ok-clause-kept : goal.returns-in-Ok-clause-kept
returns-in-Ok-clause-kept g c = λ head entries keeps.
    let same = same_log c.args.contents.now head c.in-Ok.log.head entries c.in-Ok.log.entries keeps c.in-Ok.ensures.log in
    (same.0, c.into_vec.ensures ∙ same.1)

pub returns-in-Err-Broken-clause-found : goal.returns-in-Err-Broken-clause-found
returns-in-Err-Broken-clause-found g c =
    let state = g.D.Disk.state in
    subst (λ d. ForSome (state d).told (IsNoJournal c.in-Err-Broken.at)) (sym c.into_disk-in-Err-Broken.ensures)
    (no_journal (state c.args.records) c.args.contents.now c.in-Err-Broken.at c.requires.open
    (λ old. both_ways _ c.if-is_old_journal.false (c.is_old_journal.ensures.1 old))
    (λ header payloads keeps. c.in-Err-Broken.ensures.broken header payloads c.in-Err-Broken.at keeps (ap (λ x. Err x) c.in-Err-Broken.field-0-is)))

pub returns-in-Err-Broken-clause-kept : goal.returns-in-Err-Broken-clause-kept
returns-in-Err-Broken-clause-kept g c = λ head entries keeps.
    not_broken c.args.contents.now c.in-Err-Broken.at head entries keeps
    (λ header payloads is. c.in-Err-Broken.ensures.broken header payloads c.in-Err-Broken.at is (ap (λ x. Err x) c.in-Err-Broken.field-0-is))
