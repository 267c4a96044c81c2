use Rattle.shop_book.specs.BookView.{book_of}
use Rattle.shop_book.proofs.Keeping.{auth_is}
use Rattle.shop_book.proofs.book.Book.has_auth.Goals as goal

pub returns-clause-value : goal.returns-clause-value
returns-clause-value c = rw (← c.self.view_is) (auth_is (book_of c.self.inside) c.self.inside.lists c.self.invariant.lists_are c.args.auth.now c.has.result c.has.ensures)
