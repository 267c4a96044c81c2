use Rattle.std.proofs.Common.{◌≡◌, ◌≤◌, ◌∙◌, List, Some, None, ap, arith, length, sym}
use Rattle.shop_model.specs.rows.Lookups.{row_numbered}
use Rattle.shop_history.specs.declared.acts.Entry.{Entry}
use Rattle.shop_history.proofs.cited.Places.{all_numbered}
use Rattle.shop_keep.proofs.Appending.{appends_none, noted_by}
use Rattle.shop_keep.proofs.Grown.{last_made, none_made, some_last}
use Rattle.shop_keep.proofs.noting.note.Goals as goal

pub returns-then-size-before-clause-noted : goal.returns-then-size-before-clause-noted
returns-then-size-before-clause-noted g c log made grown =
    rw (none_made c.args.before log c.args.worker.now.store.book.log made grown (omega (arith, c.size_of-size.ensures, c.if-size-before.true))) (appends_none _)

pub append-requires : goal.append-requires
append-requires g c = record {
  stamp = omega (
    arith,
    all_numbered (λ e. e.stamp ≤ c.book.result.now.latest) c.book.result.now.log c.size_of-size.result c.in-Some.entry.now (sym c.in-Some.ensures.value) c.in-Some.ensures.kept.stamps,
    c.in-Some.ensures.kept.bound,
  );
}

pub returns-in-Some-clause-noted : goal.returns-in-Some-clause-noted
returns-in-Some-clause-noted g c log made grown =
    let now = c.args.worker.now.store.book.log in
    let log_is : c.book.result.now.log ≡ now = ap (λ b. b.log) (c.book.ensures ∙ ap (λ s. s.book) c.store.ensures.store) in
    let row : Some c.in-Some.entry.now ≡ row_numbered now (length now) =
    c.in-Some.ensures.value ∙ ap (λ (l : List Entry). row_numbered l c.size_of-size.result) log_is ∙ ap (row_numbered now) c.size_of-size.ensures in
    noted_by g.D.Disk.state c.args.journal made c.in-Some.entry.now c.append.result
    (last_made c.args.before log now made grown c.in-Some.entry.now (λ few. omega (arith, few, c.size_of-size.ensures, c.if-size-before.false)) row) c.append.ensures.run c.append.ensures.memory

pub returns-in-None-clause-noted : goal.returns-in-None-clause-noted
returns-in-None-clause-noted g c log made grown =
    let now = c.args.worker.now.store.book.log in
    let log_is : c.book.result.now.log ≡ now = ap (λ b. b.log) (c.book.ensures ∙ ap (λ s. s.book) c.store.ensures.store) in
    let row : None ≡ row_numbered now (length now) =
    c.in-None.ensures.value ∙ ap (λ (l : List Entry). row_numbered l c.size_of-size.result) log_is ∙ ap (row_numbered now) c.size_of-size.ensures in
    absurd (some_last now c.args.before (λ few. omega (arith, few, c.size_of-size.ensures, c.if-size-before.false)) row)
