use Rattle.shop_book.proofs.sales.bump_gone.Goals as goal

pub returns-in-Some : goal.returns-in-Some
returns-in-Some c = λ was done before. rw c.in-Some.is (c.bump_items.ensures was done before)
