use Rattle.shop_book.proofs.sales.renew_gone.Goals as goal

pub returns-in-Some-clause-renewed : goal.returns-in-Some-clause-renewed
returns-in-Some-clause-renewed c = λ was old done before. rw c.in-Some.is (c.renew_lists.ensures.renewed was old done before)
