use Rattle.std.proofs.Common.{◌≡◌, ◌∙◌, Some, None, is_some, ap, sym, refl}
use Rattle.shop_attempt.specs.Reads.{first_stale}
use Rattle.shop_attempt.proofs.cited.Settles.{overtaken, makes_now}
use Rattle.shop_book.proofs.Preparing.{refuses}
use Rattle.shop_book.proofs.book.Book.settle.Goals as goal

pub returns-in-Some-clause-settled : goal.returns-in-Some-clause-settled
returns-in-Some-clause-settled c =
    let now = c.args.self.now in
    let first : first_stale now.opening.tables now.log c.args.attempt.reads ≡ Some c.in-Some.conflict = sym c.first_stale.ensures.first ∙ c.in-Some.is in
    record { first = first; overtaken = overtaken now.opening.tables now.log c.args.attempt.reads c.in-Some.conflict c.requires.faithful.reads_are first; same = refl }

pub ready-requires-clause-makes : goal.ready-requires-clause-makes
ready-requires-clause-makes c = λ stamp bound.
    let now = c.args.self.now in
    let book = c.first_stale.ensures.kept in
    let fresh : first_stale now.opening.tables now.log c.args.attempt.reads ≡ None = cc in
    makes_now now.opening.tables now.opening.limit now.log c.args.attempt c.in-Some-Some.act c.into_vec.result.items stamp
    book.opens.good book.legal book.short c.requires.faithful fresh c.in-Some-Some.is-1 (c.in-Some-Some.is-0 ∙ ap Some (sym c.into_vec.ensures)) bound

pub ready-requires-clause-number : goal.ready-requires-clause-number
ready-requires-clause-number c = c.requires.number (ap is_some c.in-Some-Some.is-1)

pub returns-in-Ok-clause-settled : goal.returns-in-Ok-clause-settled
returns-in-Ok-clause-settled c =
    let now = c.args.self.now in
    let fresh : first_stale now.opening.tables now.log c.args.attempt.reads ≡ None = cc in
    let change = c.in-Ok.ensures.change in
    c.commit.ensures.settled c.args.caller c.args.number c.args.attempt
    (record { ready = c.in-Ok.ensures.ready; fresh = fresh; act_is = c.in-Some-Some.is-1 ∙ ap Some (sym change.act_is); change = record { caller_is = change.caller_is; number_is = change.number_is; moment_is = change.moment_is; act_is = refl } })

pub returns-in-Err-clause-settled : goal.returns-in-Err-clause-settled
returns-in-Err-clause-settled c =
    let now = c.args.self.now in
    let fresh : first_stale now.opening.tables now.log c.args.attempt.reads ≡ None = cc in
    refuses now c.args.caller c.args.number c.args.attempt fresh (ap is_some c.in-Some-Some.is-1) c.in-Err.refused c.in-Err.ensures.refused
