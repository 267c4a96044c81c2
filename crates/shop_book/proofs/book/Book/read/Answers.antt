use Rattle.std.proofs.Common.{◌∙◌}
use Rattle.shop_book.proofs.Laws.{version_shortest}
use Rattle.shop_book.proofs.book.Book.read.Goals as goal

pub returns-clause-shortest : goal.returns-clause-shortest
returns-clause-shortest c =
    version_shortest c.args.self.now.opening.tables c.args.self.now.log c.args.key.now c.of.result
    (rw (← c.self.view_is) (c.of.ensures ∙ c.self.invariant.versions_are c.args.key.now))
