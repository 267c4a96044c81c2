use Rattle.shop_book.proofs.rows.Rows.put.Goals as goal

pub returns-in-Customer-clause-made : goal.returns-in-Customer-clause-made
returns-in-Customer-clause-made c = λ t. rw c.in-Customer.is (c.add_customer.ensures.made t)

pub returns-in-Order-clause-made : goal.returns-in-Order-clause-made
returns-in-Order-clause-made c = λ t. rw c.in-Order.is (c.add_order.ensures.made t c.args.stamp c.in-Order.field-1)
