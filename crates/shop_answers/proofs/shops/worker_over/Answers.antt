use Rattle.std.proofs.Common.{ap}
use Rattle.shop_book.specs.Books.{BookValue}
use Rattle.shop_answers.proofs.Posting.{posted}
use Rattle.shop_answers.proofs.shops.worker_over.Goals as goal

pub new-requires-2 : goal.new-requires-2
new-requires-2 c =
    posted _ c.args.tables _ c.in_ok-book.book c.new.result c.in_ok-index.ensures
    (ap (λ (b : BookValue). b.opening.tables) c.in_ok-book.ensures.value) c.new.ensures.value c.new.ensures.valid
