use Rattle.std.proofs.Common.{max, ◌∙◌, ap, refl, subst, arith}
use Rattle.shop_book.specs.Books.{BookValue, IsBook}
use Rattle.shop_book.proofs.Preparing.{comes_next, settles}
use Rattle.shop_book.proofs.book.Book.commit.Goals as goal

pub puts_at-requires-clause-stamp : goal.puts_at-requires-clause-stamp
puts_at-requires-clause-stamp c = omega (arith, c.max-stamp.ensures, c.self.invariant.is_book.bound, c.requires.bound)

pub change-requires : goal.change-requires
change-requires c =
    comes_next c.args.self.now c.args.prepared c.requires (subst IsBook c.self.view_is c.self.invariant.is_book).bound c.max-stamp.result
    (c.max-stamp.ensures ∙ ap (λ (b : BookValue). max b.latest c.args.prepared.moment) c.self.view_is) c.in-Ok.puts.items c.in-Ok.ensures

pub returns-in-Ok-clause-settled : goal.returns-in-Ok-clause-settled
returns-in-Ok-clause-settled c = λ caller number attempt prepared.
    settles c.args.self.now c.change.new.self caller number attempt c.args.prepared prepared c.max-stamp.result
    (c.max-stamp.ensures ∙ ap (λ (b : BookValue). max b.latest c.args.prepared.moment) c.self.view_is) c.change.result c.change.ensures.taken

pub returns-in-Err-clause-settled : goal.returns-in-Err-clause-settled
returns-in-Err-clause-settled c = λ caller number attempt prepared.
    (record { fresh = prepared.fresh; changes = rw prepared.act_is refl; same = refl }, c.requires.left)
