use Rattle.std.proofs.Common.{sym, ◌∙◌, subst}
use Rattle.shop_records.specs.Scanning as scanning
use Rattle.shop_journal.specs.declared.headers.Format.TheVariants.{First}
use Rattle.shop_journal.specs.Journals.{IsNone}
use Rattle.shop_journal.proofs.migrating.old_unkept.Goals as goal

pub returns-in-Ok-broken_place-clause-read : goal.returns-in-Ok-broken_place-clause-read
returns-in-Ok-broken_place-clause-read g c = λ file told.
    let old = sym c.in-Ok.ensures.looks.told ∙ told in
    let same = c.deref.ensures.value ∙ c.in-Ok.ensures.bytes file old in
    subst (IsNone First c.in-Ok-broken_place.place) same (c.in-Ok-broken_place.ensures (subst (scanning.IsNone c.args.at) (sym same) (c.requires file old)))
