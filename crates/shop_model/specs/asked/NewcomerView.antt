use Rattle.shop_model.specs.declared.buying.Newcomer.TheInside.{Inside}
use Rattle.shop_model.specs.asked.CustomersAsked.{NewcomerAsked}

abbrev pub asked_of : Inside → NewcomerAsked
asked_of i = record { first = i.first; last = i.last; address = i.address; phone = i.phone; email = i.email }
