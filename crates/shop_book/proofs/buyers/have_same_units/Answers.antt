use Rattle.shop_book.proofs.BuyerLemmas.{same_units}
use Rattle.shop_book.proofs.buyers.have_same_units.Goals as goal

pub returns-then-has_units_of-clause-same : goal.returns-then-has_units_of-clause-same
returns-then-has_units_of-clause-same c = λ yes.
    same_units c.args.order.now c.args.other.now (c.has_units_of.ensures.all c.if-has_units_of.true) (c.has_units_of-then-has_units_of.ensures.all yes)
