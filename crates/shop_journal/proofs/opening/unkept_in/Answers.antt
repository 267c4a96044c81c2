use Rattle.std.proofs.Common.{sym, subst}
use Rattle.std.proofs.lemmas.Bool.{both_ways}
use Rattle.shop_records.specs.Scanning as scanning
use Rattle.shop_journal.specs.declared.headers.Format.TheVariants.{First, Second}
use Rattle.shop_journal.specs.Journals.{BeginsAs, IsNone}
use Rattle.shop_journal.proofs.opening.unkept_in.Goals as goal

pub returns-in-Ok-clause-found : goal.returns-in-Ok-clause-found
returns-in-Ok-clause-found g c = λ file told.
    let same = c.requires.whole file told in
    record {
      not_old = λ old. both_ways _ c.if-is_old.false (c.is_old.ensures.1 (subst (BeginsAs First) (sym same) old));
      none = subst (IsNone Second c.in-Ok.place) same (c.in-Ok.ensures (subst (scanning.IsNone c.args.at) (sym same) (c.requires.none file told)));
    }
