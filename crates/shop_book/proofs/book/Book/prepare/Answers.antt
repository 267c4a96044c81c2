use Rattle.std.proofs.Common.{◌≡◌, Some, None, ap, sym, refl, ◌∙◌}
use Rattle.shop_attempt.specs.Reads.{first_stale}
use Rattle.shop_attempt.proofs.cited.Settles.{overtaken, makes_now}
use Rattle.shop_book.proofs.Preparing.{prepared_as, refused_as}
use Rattle.shop_book.proofs.book.Book.prepare.Goals as goal

pub returns-in-Some-clause-refused : goal.returns-in-Some-clause-refused
returns-in-Some-clause-refused c =
    let now = c.args.self.now in
    let first : first_stale now.opening.tables now.log c.args.attempt.reads ≡ Some c.in-Some.conflict = sym c.first_stale.ensures.first ∙ c.in-Some.is in
    record { first = first; overtaken = overtaken now.opening.tables now.log c.args.attempt.reads c.in-Some.conflict c.requires.faithful.reads_are first; same = refl }

pub ready-requires-clause-makes : goal.ready-requires-clause-makes
ready-requires-clause-makes c = λ stamp bound.
    let now = c.args.self.now in
    let book = c.first_stale.ensures.kept in
    let fresh : first_stale now.opening.tables now.log c.args.attempt.reads ≡ None = cc in
    makes_now now.opening.tables now.opening.limit now.log c.args.attempt c.in-Some-Some.act c.into_vec.result.items stamp
    book.opens.good book.legal book.short c.requires.faithful fresh c.in-Some-Some.is-1 (c.in-Some-Some.is-0 ∙ ap Some (sym c.into_vec.ensures)) bound

pub returns-clause-prepared : goal.returns-clause-prepared
returns-clause-prepared c =
    let now = c.args.self.now in
    let fresh : first_stale now.opening.tables now.log c.args.attempt.reads ≡ None = cc in
    prepared_as now c.args.caller c.args.number c.args.attempt c.in-Some-Some.act fresh c.in-Some-Some.is-1 c.ready.result c.ready.ensures.ready c.ready.ensures.change

pub returns-clause-refused : goal.returns-clause-refused
returns-clause-refused c =
    let now = c.args.self.now in
    let fresh : first_stale now.opening.tables now.log c.args.attempt.reads ≡ None = cc in
    refused_as now c.args.caller c.args.number c.args.attempt fresh c.requires.act c.ready.result c.ready.ensures.refused
