use Rattle.std.proofs.Common.{◌∙◌, arith}
use Rattle.shop_book.proofs.Callers.{few_entries}
use Rattle.shop_book.proofs.book.Book.count_of.Goals as goal

pub returns-clause-value : goal.returns-clause-value
returns-clause-value c = rw (← c.self.view_is) (c.of.ensures ∙ c.self.invariant.counts_are c.args.caller)

pub returns-clause-bound : goal.returns-clause-bound
returns-clause-bound c =
    omega (arith, c.of.ensures, c.self.invariant.counts_are c.args.caller, few_entries c.args.caller c.self.inside.log.items, c.self.invariant.is_book.short, c.self.invariant.is_book.opens.bound)
