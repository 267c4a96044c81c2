use Rattle.shop_model.specs.declared.buying.Login.TheInside.{Inside}
use Rattle.shop_model.specs.asked.CustomersAsked.{LoginAsked}

abbrev pub asked_of : Inside → LoginAsked
asked_of i = record { user = i.user; pass = i.pass }
