use Rattle.std.proofs.Common.{subst, sym}
use Rattle.shop_journal.specs.declared.headers.Format.TheVariants.{First}
use Rattle.shop_journal.specs.Journals.{BeginsAs}
use Rattle.shop_journal.proofs.Opens.{old_from, old_to}
use Rattle.shop_journal.proofs.opening.is_old_journal.Goals as goal

pub returns : goal.returns
returns c =
    let kept = c.header.ensures.kept in
    let same = c.header.ensures.header kept.header kept.payloads kept.keeps in (
      λ is. old_from kept.header kept.payloads c.args.contents.now kept.keeps (subst (BeginsAs First) same (c.is_old.ensures.0 is)),
      λ old. c.is_old.ensures.1 (subst (BeginsAs First) (sym same) (old_to kept.header kept.payloads c.args.contents.now kept.keeps old)),
    )
