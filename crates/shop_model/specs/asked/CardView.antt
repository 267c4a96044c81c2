use Rattle.shop_model.specs.declared.buying.Card.TheInside.{Inside}
use Rattle.shop_model.specs.asked.PurchaseAsked.{CardAsked}

abbrev pub asked_of : Inside → CardAsked
asked_of i = record { card = i.card; number = i.number; name = i.name; expiry = i.expiry }
