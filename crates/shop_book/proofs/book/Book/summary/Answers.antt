use Rattle.std.proofs.Common.{◌≡◌, ◌-◌, length, ap, arith}
use Rattle.shop_model.specs.declared.tables.Tables.{Tables}
use Rattle.shop_book.specs.Books.{tables_of}
use Rattle.shop_book.specs.BookView.{book_of}
use Rattle.shop_book.proofs.NewOrders.{born_within, summary_is}
use Rattle.shop_book.proofs.book.Book.summary.Goals as goal
use Rattle.shop_book.proofs.book.Book.summary.Goals.{After-len-2}

-- how many orders there are
count_is : (c : After-len-2) → c.len-2.result ≡ length (tables_of (book_of c.self.inside)).orders
count_is c = omega (arith, c.len-2.ensures, c.self.inside.rows.orders.ok.0, ap (λ (t : Tables). length t.orders) c.self.invariant.rows_are)

pub overflow_sub-result : goal.overflow_sub-result
overflow_sub-result c =
    let at = (goal.at.overflow_sub-result c).After-len-2 in
    omega (arith, c.from-born.ensures, count_is at, born_within (book_of c.self.inside) c.self.invariant.is_book)

pub returns-clause-value : goal.returns-clause-value
returns-clause-value c =
    let at = (goal.at.returns-clause-value c).After-len-2 in
    rw (← c.self.view_is)
    (summary_is (book_of c.self.inside) c.self.invariant.is_book c.len.result (c.len-2.result - c.from-born.result) c.self.inside.cents
    (omega (arith, c.len.ensures, c.self.inside.log.ok.0)) (omega (arith, c.from-born.ensures, count_is at)) c.self.invariant.cents_are)
