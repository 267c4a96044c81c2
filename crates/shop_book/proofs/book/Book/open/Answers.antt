use Rattle.std.proofs.Common.{List, sym, subst}
use Rattle.shop_history.specs.declared.acts.Entry.{Entry}
use Rattle.shop_book.specs.declared.opening.Opening.{Opening}
use Rattle.shop_book.specs.Keeping.{IsKept}
use Rattle.shop_book.proofs.Keeping.{first_kept}
use Rattle.shop_book.proofs.NewOrders.{none_came}
use Rattle.shop_book.proofs.book.Book.open.Goals as goal

pub invariant_of-result : goal.invariant_of-result
invariant_of-result c =
    let opening : Opening = record { tables = c.args.tables; limit = c.args.limit } in
    subst (λ (log : List Entry). IsKept (record { opening = opening; log = log; latest = 0 }) c.in_ok-rows.rows c.in_ok-versions.versions c.new-2.result c.in_ok-lists.lists 0) (sym c.new-3.ensures.items)
    (first_kept opening c.in_ok-rows.rows c.in_ok-versions.versions c.new-2.result c.in_ok-lists.lists c.in_ok-lists.ensures c.requires c.in_ok-rows.ensures c.in_ok-versions.ensures.places c.in_ok-versions.ensures.none c.in_ok-versions.ensures.added c.new-2.ensures (none_came opening c.requires))

pub returns-clause-kept : goal.returns-clause-kept
returns-clause-kept c = (invariant_of-result c).is_book
