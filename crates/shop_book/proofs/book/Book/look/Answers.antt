use Rattle.std.proofs.Common.{sym, ◌∙◌, ap, subst}
use Rattle.shop_model.specs.lists.Catalogues.{added}
use Rattle.shop_book.specs.BookView.{book_of}
use Rattle.shop_book.specs.Laws.{IsGoodThroughout}
use Rattle.shop_book.specs.KeptLists.{AreLists}
use Rattle.shop_book.proofs.Keeping.{sound_now}
use Rattle.shop_book.proofs.Laws.{version_shortest, good_throughout}
use Rattle.shop_book.proofs.book.Book.look.Goals as goal

pub shown-requires-clause-sound : goal.shown-requires-clause-sound
shown-requires-clause-sound c = sound_now (book_of c.self.inside) c.self.inside.rows c.self.invariant.is_book c.self.invariant.rows_are

pub shown-requires-clause-lists : goal.shown-requires-clause-lists
shown-requires-clause-lists c = subst (λ t. AreLists t c.self.inside.lists) (sym c.self.invariant.rows_are) c.self.invariant.lists_are

pub shown-requires-clause-added : goal.shown-requires-clause-added
shown-requires-clause-added c = c.self.invariant.added_are.contents_are ∙ ap added (sym c.self.invariant.rows_are)

pub returns-in_err-row-clause-sound : goal.returns-in_err-row-clause-sound
returns-in_err-row-clause-sound c = subst IsGoodThroughout c.self.view_is (good_throughout (book_of c.self.inside) c.self.invariant.is_book)

pub returns-in-Err-clause-sound : goal.returns-in-Err-clause-sound
returns-in-Err-clause-sound c = subst IsGoodThroughout c.self.view_is (good_throughout (book_of c.self.inside) c.self.invariant.is_book)

pub returns-in-Ok-clause-sound : goal.returns-in-Ok-clause-sound
returns-in-Ok-clause-sound c = subst IsGoodThroughout c.self.view_is (good_throughout (book_of c.self.inside) c.self.invariant.is_book)

pub returns-in-Ok-clause-shortest : goal.returns-in-Ok-clause-shortest
returns-in-Ok-clause-shortest c =
    version_shortest c.args.self.now.opening.tables c.args.self.now.log c.args.key.now c.of.result
    (rw (← c.self.view_is) (c.of.ensures ∙ c.self.invariant.versions_are c.args.key.now))
