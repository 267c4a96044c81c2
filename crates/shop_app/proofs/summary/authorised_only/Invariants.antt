use Rattle.std.proofs.Common.{◌≡◌, take}
use Rattle.shop_book.specs.Books.{tables_of}
use Rattle.shop_app.specs.Summaries.{authorised_only}
use Rattle.shop_app.proofs.summary.authorised_only.Given as goal

abbrev pub invariant-loop-answer : goal.invariant-loop-answer
invariant-loop-answer l = l.count ≡ authorised_only (take l.answer-index l.answers) (tables_of l.book)
