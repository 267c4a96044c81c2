use Rattle.shop_model.specs.declared.buying.BuyConfirm.TheInside.{Inside}
use Rattle.shop_model.specs.asked.PurchaseAsked.{PurchaseAsked}

abbrev pub asked_of : Inside → PurchaseAsked
asked_of i = record { c = i.c; cart = i.cart; payment = i.payment; ship = i.ship; address = i.address }
