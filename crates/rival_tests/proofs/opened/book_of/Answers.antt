use Rattle.std.proofs.Common.{ap, ◌∙◌}
use Rattle.std.proofs.lemmas.Result.{IfOk-weaker}
use Rattle.shop_book.specs.Books.{BookValue}
use Rattle.rival_tests.proofs.opened.book_of.Goals as goal

pub returns : goal.returns
returns c =
    IfOk-weaker c.open.result _ _ (λ book is. ap (λ (b : BookValue). b.opening.tables) is ∙ c.in_ok-tables.ensures.value) c.open.ensures.value
